-- Sets of bytes: the named sets by their ranges, letters in both cases, and classes of eight words.
-- docs/REFERENCE.md, 5
pub mod Named
pub mod Cases
pub mod Class
pub mod Laws
