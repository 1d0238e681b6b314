pub mod Write
pub mod Cuts
pub mod Parts
pub mod Mend
pub mod Read
pub mod Local
pub mod Walk
