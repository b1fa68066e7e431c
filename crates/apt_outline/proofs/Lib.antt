pub mod Towards
pub mod Far
pub mod Perpendiculars
pub mod Quotients
pub mod Core
pub mod Tests
pub mod Whole
pub mod Firsts
pub mod Beside
pub mod Deciding
pub mod Listed
pub mod Halves
pub mod Guarding
pub mod Within
pub mod Single
pub mod Reaching
pub mod Reading
pub mod Places
pub mod Defining
pub mod Held
mod WorkedOutlines
pub mod WorkedSpots
mod WorkedGouges
