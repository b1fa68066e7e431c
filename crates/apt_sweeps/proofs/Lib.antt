pub mod Bands
pub mod Told
pub mod Walk
pub mod Belonging
pub mod Going
pub mod Machines
mod Worked
