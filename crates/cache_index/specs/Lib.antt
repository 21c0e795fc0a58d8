pub mod Asked
pub mod Ids
pub mod Lists
pub mod Index
