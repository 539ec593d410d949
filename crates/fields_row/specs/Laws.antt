-- Facts that proofs cite.
pub mod Parts
