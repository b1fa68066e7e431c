pub mod FirstLaws
pub mod StepLaws
pub mod HeldLaws
