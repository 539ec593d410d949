-- What is proved of counting lines.
-- docs/REFERENCE.md, 16.6
pub mod Laws
