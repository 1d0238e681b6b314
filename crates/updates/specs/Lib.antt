pub mod Writing
pub mod Whole
pub mod Sources
pub mod Steps
pub mod Made
