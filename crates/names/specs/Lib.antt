pub mod Left
pub mod Same
