pub mod Library
