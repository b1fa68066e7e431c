pub mod Vectors
pub mod Ranges
pub mod Distances
pub mod Segments
pub mod Order
pub mod Axes
pub mod Sweeps
