pub mod Mending
pub mod MendingLaws
pub mod Stored
