-- Statements and parts that the checker works out.
pub mod Plates
pub mod Parts
pub mod Statements
pub mod StartUps
pub mod Definitions
pub mod Cases
