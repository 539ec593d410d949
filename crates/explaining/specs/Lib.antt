-- What an explanation tells.
-- docs/REFERENCE.md, 16.5
pub mod Explanations
pub mod Laws
