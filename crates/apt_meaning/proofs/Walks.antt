-- The records of one step after another.
pub mod Kept
pub mod Alone
pub mod Compiled
pub mod Begins
pub mod Agree
pub mod Follower
pub mod Ends
pub mod Files
