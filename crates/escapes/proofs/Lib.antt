-- The laws that the functions' proofs cite, and some of those above.
pub mod EscapeCases
pub mod NameCases
