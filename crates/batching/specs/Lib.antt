-- What a day's lines tell. What stands for the lines of a rule that stands compiled is in `batch_lines`.
-- docs/REFERENCE.md, 16.6
pub mod Batches
pub mod Laws
