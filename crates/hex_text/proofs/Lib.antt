pub mod LineLaws
pub mod RunLaws
