-- Tangents from a point and of two circles.
pub mod Frame
pub mod Calls
pub mod Laws
pub mod TwoLaws
pub mod Ways
pub mod Answers
pub mod Worked
