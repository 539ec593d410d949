-- Facts about what is told.
pub mod Explanations
