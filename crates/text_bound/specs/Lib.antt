pub mod Rules
pub mod Pieces
pub mod Parts
pub mod Document
