pub mod TypeJob
