pub mod Bindings
pub mod Roots
pub mod Ranges
pub mod Stacked
mod Worked
