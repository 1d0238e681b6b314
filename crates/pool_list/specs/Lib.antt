pub mod Ranges
pub mod Asked
pub mod Steps
pub mod Kept
pub mod Laid
pub mod Answered
pub mod Told
