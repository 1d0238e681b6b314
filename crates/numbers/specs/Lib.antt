pub mod Gcd
pub mod Layouts
pub mod Refused
pub mod Editions
pub mod Shapes
pub mod Answers
