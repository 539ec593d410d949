-- What the C interface promises.
-- docs/REFERENCE.md, 18.2
pub mod Answers
pub mod Laws
pub mod Cards
pub mod CardLaws
