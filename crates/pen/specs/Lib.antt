pub mod Lists
pub mod Put
pub mod Wrote
pub mod Times
