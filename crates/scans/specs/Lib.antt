-- What successive matches tell and hold on their way. What is told of a search's first try stands in `searching`.
-- docs/REFERENCE.md, 16.4
pub mod Scanning
