pub mod Horner
pub mod Plan
pub mod Fill
pub mod Combine
pub mod Schedule
pub mod InPlace
