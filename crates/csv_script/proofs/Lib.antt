pub mod Written
pub mod RowLemmas
pub mod PlaceLemmas
pub mod Stops
