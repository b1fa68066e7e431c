pub mod Vertices
pub mod Ranges
pub mod Words
pub mod Lists
