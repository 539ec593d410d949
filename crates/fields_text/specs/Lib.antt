-- The text of the table of fields: a field as it is escaped (Escaping), and the lines of the table (Table).
-- docs/REFERENCE.md, 19.3
pub mod Escaping
pub mod Table
pub mod Promises
