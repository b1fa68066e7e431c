-- Feet on a line, parallels, and points of a circle in a direction.
pub mod Rays
pub mod Sharp
pub mod Laws
pub mod Parallels
pub mod Worked
