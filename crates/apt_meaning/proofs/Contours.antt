-- Contours that no case refuses: along lines and round circles.
pub mod Bands
pub mod Edges
pub mod Legal
pub mod Arcs
pub mod Starts
pub mod Overruns
pub mod Rounds
pub mod Cuts
pub mod Legs
pub mod Ranges
