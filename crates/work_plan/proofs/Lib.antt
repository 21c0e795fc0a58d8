pub mod CutParts
pub mod FitParts
pub mod FitPlaces
pub mod Recorded
pub mod Spelled
pub mod UsedIds
