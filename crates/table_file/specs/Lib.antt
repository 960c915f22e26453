pub mod File
pub mod Ways
pub mod Within
pub mod ReadsBack
