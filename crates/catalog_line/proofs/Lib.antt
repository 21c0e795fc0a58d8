mod Examples
pub mod NoFloats
pub mod ReadableLemmas
pub mod Utf8Texts
pub mod NameLemmas
