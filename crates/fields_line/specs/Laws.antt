-- Facts that proofs cite.
pub mod Listings
pub mod Answers
