pub mod Acts
pub mod Binding
pub mod Tables
pub mod Moments
pub mod Nesting
pub mod Going
pub mod Found
pub mod Steps
pub mod Titles
pub mod InOrder
pub mod Prefixes
mod Worked
