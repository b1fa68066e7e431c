pub mod Demo
pub mod Promise
