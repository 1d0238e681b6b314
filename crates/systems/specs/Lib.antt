pub mod Coef
pub mod Cramer
pub mod System
pub mod Matrix
pub mod Entry
