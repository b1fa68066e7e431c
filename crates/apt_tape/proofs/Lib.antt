pub mod Plainly
pub mod Runs
pub mod Comparing
pub mod Acts
mod Worked
