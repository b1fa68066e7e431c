pub mod Jobs
pub mod Fronts
pub mod Answering
pub mod InAndOut
