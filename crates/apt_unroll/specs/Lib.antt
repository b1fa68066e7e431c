pub mod Places
pub mod Tables
pub mod Calls
pub mod Stages
pub mod Actions
pub mod Trace
pub mod Straight
pub mod Codes
