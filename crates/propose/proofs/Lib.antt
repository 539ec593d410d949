-- What the functions' proofs cite.
mod Holding
