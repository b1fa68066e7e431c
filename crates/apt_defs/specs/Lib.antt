pub mod Figures
pub mod Forms
pub mod Definitions
pub mod Names
pub mod Alike
pub mod Drawn
