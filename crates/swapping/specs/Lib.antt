pub mod Swapping
pub mod SwapLaws
pub mod SwapBack
