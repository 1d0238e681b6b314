pub mod Held
pub mod InPlace
pub mod Laying
pub mod Run
pub mod Steps
