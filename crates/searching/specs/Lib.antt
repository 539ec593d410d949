-- What is told of a search's first try.
-- docs/REFERENCE.md, 16.4
pub mod Tries
