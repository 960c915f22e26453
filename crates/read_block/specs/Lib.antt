pub mod Indent
pub mod White
pub mod Before
