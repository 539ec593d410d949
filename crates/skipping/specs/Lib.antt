-- Starts that are passed over (Passing), and what is carried over them (Laws).
pub mod Passing
pub mod Laws
