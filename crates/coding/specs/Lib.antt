pub mod Buffer
pub mod Units
pub mod Encoding
pub mod Closing
pub mod Mending
pub mod Whole
