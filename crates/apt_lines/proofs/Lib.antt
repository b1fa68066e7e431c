pub mod Backwards
pub mod Decimals
