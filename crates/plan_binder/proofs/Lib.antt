pub mod Collecting
pub mod BindingLaws
pub mod BoundPlans
pub mod CallRowLaws
pub mod OpRowLaws
pub mod BoundCounts
