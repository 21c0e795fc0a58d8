pub mod NamedBytes
pub mod NamedPieces
pub mod KeptIds
pub mod NormalForms
pub mod LeftOut
pub mod OwnParts
pub mod PieceFiles
pub mod Serving
