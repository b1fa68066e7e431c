mod Worked
pub mod Places
pub mod Spelling
