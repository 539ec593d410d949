-- What stands for the lines of a rule that stands compiled (Parts), and what is proved of it.
-- docs/REFERENCE.md, 16.6
pub mod Parts
pub mod Laws
