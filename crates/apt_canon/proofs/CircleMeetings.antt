-- Where a circle meets a line or a circle.
pub mod Near
pub mod LineCircle
pub mod CircleCircle
pub mod Across
pub mod Answers
