-- The field lookup of 02, request e): the name index, 01's rules for a row, and what is found. Laws has the facts that are proved of it.
-- docs/REFERENCE.md, 16.7
pub mod Names
pub mod Rows
pub mod Lookup
pub mod FieldsHold
pub mod NamedFields
pub mod Laws
pub mod Computing
pub mod Examples
