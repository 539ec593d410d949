-- The laws that the functions' proofs cite.
pub mod Trying
pub mod Starts
