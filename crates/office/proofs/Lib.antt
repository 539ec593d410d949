-- What the functions' proofs cite.
mod LineEnds
