pub mod Saying
pub mod Holes
pub mod Next
pub mod Meaning
pub mod Standing
pub mod Places
pub mod Running
pub mod Lengths
pub mod BlockByBlock
pub mod Planned
pub mod NextRead
mod WorkedBlocks
mod WorkedTapes
