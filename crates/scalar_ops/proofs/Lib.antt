pub mod FitsI64
pub mod Rounding
pub mod RowLaws
pub mod TruthRows
pub mod ValueLaws
