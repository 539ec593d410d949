-- What a report shows, as the promises of the code state it.
-- docs/REFERENCE.md, 19.2
pub mod Text
pub mod Marks
pub mod Laws
