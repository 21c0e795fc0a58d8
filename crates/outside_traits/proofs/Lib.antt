mod Examples
pub mod ByteLemmas
pub mod RemovalLemmas
pub mod RunLemmas
