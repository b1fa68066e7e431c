pub mod Circles
pub mod Deeds
pub mod Walks
pub mod Numbers
pub mod Scenes
pub mod Moving
pub mod Chords
pub mod HalfTurns
pub mod Rounds
pub mod Whole
pub mod Readings
pub mod Texts
pub mod Programs
pub mod Limits
pub mod Undrilled
pub mod Promised
mod Worked
