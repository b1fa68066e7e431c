pub mod Tapes
pub mod Bytes
pub mod Runs
pub mod Differences
pub mod Comparisons
