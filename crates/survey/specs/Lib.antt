pub mod Starts
pub mod Surveyed
pub mod Placing
pub mod Steps
pub mod ByGroups
