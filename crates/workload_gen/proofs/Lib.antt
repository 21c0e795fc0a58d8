pub mod DrawLemmas
pub mod LaterLemmas
pub mod LengthLemmas
pub mod LoopLemmas
