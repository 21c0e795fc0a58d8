pub mod Equality
pub mod Kind
pub mod Limits
pub mod Name
pub mod RowOrder
pub mod Schema
pub mod Txt
pub mod Value
