pub mod Turns
pub mod Sides
pub mod Targets
pub mod Bands
pub mod Refusals
pub mod Edges
pub mod Ranges
