pub mod Heights
pub mod Lengths
pub mod Conditions
mod Worked
