-- The laws that the functions' proofs cite.
pub mod Bits
pub mod Words
pub mod Range
pub mod Rules
pub mod Letters
