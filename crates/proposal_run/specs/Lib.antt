pub mod Steps
pub mod Entry
pub mod Turns
pub mod Places
