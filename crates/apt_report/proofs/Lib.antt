pub mod PointCounts
pub mod ActLines
pub mod Places
pub mod Told
mod Worked
