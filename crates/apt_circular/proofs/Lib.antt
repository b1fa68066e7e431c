pub mod Fitting
pub mod Plans
pub mod ArcsSaid
pub mod Lengths
pub mod HowMany
pub mod LastVertex
mod Worked
mod WorkedBlocks
pub mod Standing
pub mod Saying
pub mod Meaning
pub mod Running
pub mod Posting
pub mod BlockByBlock
pub mod Able
pub mod Instructions
