pub mod Machines
pub mod Causes
pub mod Numbers
pub mod Keys
pub mod Tables
pub mod Spelling
