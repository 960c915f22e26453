pub mod Places
pub mod ByLine
pub mod Rule
pub mod Scan
pub mod Quotes
pub mod Text
