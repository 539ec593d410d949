-- The table of names, and the laws of it.
pub mod Table
