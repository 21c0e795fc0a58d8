pub mod Escapes
pub mod ItemLoops
pub mod KeptOrder
pub mod KeptSums
pub mod Lists
pub mod Programs
pub mod Refusals
pub mod Written
