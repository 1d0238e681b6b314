pub mod Checked
pub mod Windows
pub mod Marks
pub mod Entry
pub mod Steps
pub mod Places
