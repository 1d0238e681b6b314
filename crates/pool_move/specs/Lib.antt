pub mod Groups
pub mod Turns
pub mod Answers
pub mod Lengths
