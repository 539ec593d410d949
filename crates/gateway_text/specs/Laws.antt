-- Facts about the lines that proofs cite.
pub mod Lines
