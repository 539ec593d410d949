-- Facts that the proofs of the code cite.
pub mod Walking
pub mod Checking
