pub mod First
pub mod Answers
pub mod Play
pub mod Said
pub mod SaidLaws
pub mod PlayLaws
pub mod PlayedLaws
pub mod FirstLaws
