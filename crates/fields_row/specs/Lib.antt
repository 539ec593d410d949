-- A row of the table of fields: its fields and its word (Fields), written part by part (Parts).
-- docs/REFERENCE.md, 19.3
pub mod Fields
pub mod Parts
pub mod Promises
pub mod Laws
