pub mod HomesLaws
pub mod MissingLaws
pub mod StandingLaws
pub mod StepsLaws
