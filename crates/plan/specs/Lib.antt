pub mod Plans
pub mod Same
pub mod Held
pub mod Steps
pub mod Whole
