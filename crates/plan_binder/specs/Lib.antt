pub mod OpRows
pub mod Binding
pub mod Resolves
pub mod BoundPlan
pub mod CallRows
