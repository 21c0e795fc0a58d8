pub mod Computed
pub mod Entries
pub mod Estimate
pub mod Examples
pub mod Files
pub mod IsRewriting
pub mod Looking
pub mod PlainRewriting
