pub mod Byte
pub mod Xor
pub mod Linear
pub mod Laws
pub mod Ring
pub mod Sum
pub mod Powers
pub mod Tables
