-- The laws of the stack, which proofs of other crates cite too.
pub mod Frames
