-- Facts about what a match tells.
pub mod Outcomes
pub mod Registers
