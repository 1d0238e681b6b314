pub mod Entry
pub mod Drawn
