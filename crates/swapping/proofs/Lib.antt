pub mod SwapLaws
pub mod SwapHolds
pub mod SwapBackLaws
pub mod SwapUnread
