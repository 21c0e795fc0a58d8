pub mod Extents
pub mod HeldRows
pub mod Sums
pub mod OnOk
pub mod Fit
pub mod Gatherings
