pub mod CoefLaws
pub mod SystemLaws
