pub mod StartUps
pub mod Nearest
pub mod Ranges
