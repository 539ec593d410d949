-- The columns of the table of fields (Columns), and what its head promises.
-- docs/REFERENCE.md, 19.3
pub mod Columns
pub mod Promises
pub mod Laws
