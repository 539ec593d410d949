-- A rule card in words.
-- docs/REFERENCE.md, 19.4
pub mod Text
pub mod Room
pub mod Laws
