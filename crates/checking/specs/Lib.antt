-- What a check of a proposed reading tells. How its path is followed stands in `following`.
-- docs/REFERENCE.md, 16.10
pub mod Verdicts
pub mod Laws
