-- The laws of written numbers, which proofs above cite too.
pub mod Writing
