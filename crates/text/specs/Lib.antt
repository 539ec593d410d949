-- Text as lists of bytes.
-- docs/REFERENCE.md, 19.1
pub mod Lines
pub mod Numbers
pub mod Writing
pub mod Gathering
pub mod Laws
