pub mod RowsByKey
