-- Facts about the texts of items and about marked ones, for the proofs of the code.
pub mod Decides
pub mod Items
pub mod Marks
