-- Where two lines meet.
pub mod Meets
pub mod Near
pub mod Meeting
pub mod OnBoth
