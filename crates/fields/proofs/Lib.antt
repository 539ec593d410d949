-- What the functions' proofs cite.
mod Falling
