-- What the first pass leaves in the rule area, what linking makes of it, what the small functions write, what a caller needs to see that a
-- rule fits, and the names that references are looked up in.
pub mod Nodes
pub mod Linking
pub mod Stores
pub mod Laws
pub mod Known
