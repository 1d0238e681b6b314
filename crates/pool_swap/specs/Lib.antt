pub mod Answers
pub mod Groups
