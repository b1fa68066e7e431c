pub mod Sides
pub mod Distances
pub mod MeetingLaws
pub mod ContactLaws
pub mod Aside
