-- What is proved of a listing's call. What a listing tells stands in `gathering`.
-- docs/REFERENCE.md, 16.3
pub mod Laws
