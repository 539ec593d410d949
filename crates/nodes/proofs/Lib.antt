-- The laws that the functions' proofs cite.
pub mod Tests
pub mod Comparing
pub mod WordRows
