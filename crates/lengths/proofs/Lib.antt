-- What the proofs cite: laws of the numbers that are found, and for each kind of node what is asked of it and what is found.
pub mod Numbers
pub mod Parts
pub mod Chains
pub mod Alternatives
pub mod Insides
