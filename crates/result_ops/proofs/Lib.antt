pub mod FitInputs
pub mod FitGroups
pub mod FitJoins
pub mod FitMerged
pub mod BoundedGroups
pub mod FitResults
pub mod GrownGroups
pub mod FitLaws
