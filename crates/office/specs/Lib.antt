-- What the contracts speak of: the parts of what was read.
-- docs/REFERENCE.md, 19
pub mod Parts
