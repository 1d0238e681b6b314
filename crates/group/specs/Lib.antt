pub mod Encode
pub mod Rebuild
pub mod Flags
pub mod Accepted
pub mod AcceptedByNumber
