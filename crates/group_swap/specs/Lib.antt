pub mod Taken
pub mod TakenLaws
