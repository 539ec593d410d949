-- The gateway program's rule, and what it answers to a line.
-- docs/REFERENCE.md, 19.1
pub mod Limits
pub mod Answers
pub mod Promises
pub mod Laws
