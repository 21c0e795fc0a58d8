pub mod Lists
pub mod Orders
pub mod Ranks
pub mod Choices
pub mod Sorting
pub mod Candidacy
pub mod Taking
pub mod Existence
