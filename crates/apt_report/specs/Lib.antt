pub mod StatusNumbers
pub mod Lines
pub mod Acts
pub mod Listing
pub mod Columns
