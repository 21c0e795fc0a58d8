pub mod Sets
pub mod Tests
