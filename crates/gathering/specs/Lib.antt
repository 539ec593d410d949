-- What a listing tells and holds on its way.
-- docs/REFERENCE.md, 16.3
pub mod Listing
