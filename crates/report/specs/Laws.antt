-- Facts about what is shown, for the proofs of the code.
pub mod Front
pub mod Text
pub mod Marks
