pub mod Columns
pub mod Underway
