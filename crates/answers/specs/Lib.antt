-- Which numbers an outcome is told as.
-- docs/REFERENCE.md, 18.2
pub mod Answers
pub mod Laws
pub mod Cards
pub mod CardLaws
