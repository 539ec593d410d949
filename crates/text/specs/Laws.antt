-- Facts about text that proofs cite.
pub mod Lines
pub mod Numbers
pub mod Writing
pub mod Gathering
