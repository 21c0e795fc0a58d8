pub mod Causes
pub mod Jobs
pub mod Machine
pub mod MachineJob
pub mod Refusals
pub mod Standing
pub mod Taken
pub mod Work
