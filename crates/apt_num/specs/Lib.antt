pub mod Near
pub mod Root
pub mod Sign
