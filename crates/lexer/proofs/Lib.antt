-- The laws that the functions' proofs cite.
pub mod ReferenceCases
pub mod ItemCases
