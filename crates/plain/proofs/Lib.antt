-- The laws that the functions' proofs cite.
pub mod Trying
pub mod Missing
pub mod Moving
