-- Facts that proofs cite.
pub mod Comparing
