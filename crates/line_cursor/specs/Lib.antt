pub mod Lines
pub mod LineLaws
pub mod CutLaws
pub mod StepLaws
pub mod ByPlaces
pub mod CursorLaws
