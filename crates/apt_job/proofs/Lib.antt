pub mod Walks
pub mod InFront
pub mod Ranges
pub mod Steps
pub mod InAndOut
mod Worked
