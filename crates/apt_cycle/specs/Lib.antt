pub mod CycleBlocks
pub mod Blocks
pub mod Settled
pub mod Holes
pub mod CycleTape
pub mod Writable
pub mod Windows
