-- Circles that are defined: by three points, about a centre, in a corner.
pub mod Sizes
pub mod Range
pub mod Distance
pub mod Far
pub mod Three
pub mod Corner
pub mod Laws
pub mod Worked
