-- What the proofs of several functions use. Standing is cited above too.
pub mod Standing
mod Parentheses
mod Items
