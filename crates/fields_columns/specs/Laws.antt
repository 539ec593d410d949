-- Facts that proofs cite.
pub mod Columns
pub mod Heading
