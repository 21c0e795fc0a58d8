pub mod RowSpelling
pub mod Fields
