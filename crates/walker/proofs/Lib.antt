-- The laws that the functions' proofs cite.
pub mod Stepping
pub mod Walking
