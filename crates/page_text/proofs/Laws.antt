-- Facts about what is shown: for proofs (Writing, Cases), and for its readers, that it is never markup (Harmless) and that nothing is lost (Decoding).
pub mod Writing
pub mod Cases
pub mod Harmless
pub mod Decoding
