pub mod Scalars
pub mod Meanings
pub mod Stacks
pub mod Evaluation
pub mod StepScalars
