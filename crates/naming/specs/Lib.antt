-- What is proved of the name index's entries, and of the names that a table has.
-- docs/REFERENCE.md, 15.4
pub mod Laws
