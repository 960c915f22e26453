pub mod Pool
pub mod Room
pub mod Document
