pub mod Walking
pub mod WalkLaws
pub mod ByTargets
