pub mod Derived
pub mod Adjacent
pub mod Points
