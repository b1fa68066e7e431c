pub mod Motions
pub mod Settings
pub mod Flow
pub mod Shapes
