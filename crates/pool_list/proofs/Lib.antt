pub mod AskedLaws
pub mod StepsLaws
pub mod AnswersLaws
pub mod KeptLaws
pub mod LaidLaws
pub mod AnsweredLaws
pub mod One
