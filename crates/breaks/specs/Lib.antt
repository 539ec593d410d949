-- What `\R` does at a position, in numbers.
pub mod Breaks
