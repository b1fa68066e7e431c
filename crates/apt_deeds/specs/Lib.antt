pub mod Deeds
pub mod Texts
