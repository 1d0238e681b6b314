pub mod Fresh
pub mod Moving
pub mod FreshLaws
pub mod MoveLaws
