-- Facts about what a listing tells.
pub mod Listings
