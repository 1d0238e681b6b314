pub mod Put
pub mod Sums
