-- Facts about the words that proofs cite.
pub mod Writing
pub mod Shown
