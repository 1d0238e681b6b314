pub mod Looks
pub mod Parts
pub mod Shown
