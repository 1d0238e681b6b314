pub mod Generator
pub mod Permutation
pub mod Laws
pub mod Stores
