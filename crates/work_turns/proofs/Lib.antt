pub mod Dropped
pub mod LeftOut
pub mod TurnLists
pub mod TurnSteps
pub mod TurnsOver
pub mod Turning
pub mod WorkedTurns
