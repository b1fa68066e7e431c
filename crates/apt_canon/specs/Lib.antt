pub mod Scale
pub mod Meeting
pub mod Circles
pub mod Feet
pub mod Tangents
pub mod Rounds
pub mod RoundLaws
