-- What is proved of the call for successive matches. What they tell stands in `scans`.
-- docs/REFERENCE.md, 16.4
pub mod Laws
