-- What the functions' proofs cite.
mod Fitting
