-- What the table of fields has for a line: the word and the fields (Answers). Whether another reading has other fields stands in `fields_compared`.
-- docs/REFERENCE.md, 19.3
pub mod Answers
pub mod Promises
pub mod Settled
pub mod Examples
pub mod Laws
