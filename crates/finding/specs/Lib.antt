-- What a match tells.
-- docs/REFERENCE.md, 16.2
pub mod Outcomes
pub mod Registers
pub mod Laws
