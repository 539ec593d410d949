-- What a listing holds on its way over the ends of one start, and what is proved of it.
-- docs/REFERENCE.md, 16.3
pub mod Noting
pub mod Laws
