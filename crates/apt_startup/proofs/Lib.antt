pub mod Reach
pub mod Nearer
pub mod Refused
pub mod Limits
pub mod Sided
mod Worked
