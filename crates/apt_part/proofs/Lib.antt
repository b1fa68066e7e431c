mod Worked
mod Asking
pub mod Undrilled
pub mod Written
mod Acting
pub mod Filed
pub mod Promised
