-- What is said of the items of a rule that failed: their texts (Items), and which of them are marked and named (Marks). Laws has facts about both.
-- docs/REFERENCE.md, 19.2
pub mod Items
pub mod Marks
pub mod Laws
