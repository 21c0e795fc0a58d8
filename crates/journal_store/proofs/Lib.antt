pub mod Checkpointing
pub mod Committing
pub mod LoadingLemmas
pub mod MakingLemmas
pub mod Numbers
pub mod OneReading
