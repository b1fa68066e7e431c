pub mod Arguments
pub mod Figures
