pub mod Plain
pub mod Compilation
pub mod Answering
pub mod Promise
