pub mod Shape
pub mod Depth
pub mod Size
pub mod Inside
pub mod Lists
pub mod Tops
