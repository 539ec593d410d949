-- Facts about answers that proofs cite.
pub mod Rules
pub mod Calls
