pub mod Walked
pub mod ShowsAt
