pub mod Statements
pub mod Programs
pub mod ReaderState
