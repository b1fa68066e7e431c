pub mod Circles
pub mod Rooms
pub mod Bands
pub mod Refusals
pub mod Spots
pub mod Aside
