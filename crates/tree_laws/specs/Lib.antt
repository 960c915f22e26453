pub mod Height
pub mod Forest
pub mod Size
pub mod Lists
