-- What the proofs of several functions use.
mod Answers
mod Groups
mod Sequences
mod Alternations
mod Whole
mod Compilations
