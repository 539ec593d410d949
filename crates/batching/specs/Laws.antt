-- Facts about the parts that the call is to write, and about what a day's lines tell.
pub mod Parts
pub mod Batches
