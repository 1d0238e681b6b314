pub mod AcceptedLaws
pub mod RunningLaws
pub mod LowestSourcesLaws
pub mod DrawingLaws
pub mod PlanHolds
pub mod PlanUnread
