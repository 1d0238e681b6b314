pub mod ScanLaws
pub mod CallLaws
pub mod TextLaws
pub mod Handed
