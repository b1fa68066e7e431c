pub mod Operands
pub mod Forests
pub mod Expressions
