-- The starts of a line: what is left of them, what is told of them, and their straight ways.
pub mod Starts
pub mod Straight
pub mod Laws
