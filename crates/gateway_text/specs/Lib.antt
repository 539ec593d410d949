-- The lines that the gateway program writes.
-- docs/REFERENCE.md, 19.1
pub mod Limits
pub mod Lines
pub mod Promises
pub mod Laws
