pub mod Patterns
pub mod Expansions
pub mod Ranges
pub mod Holes
pub mod Taking
