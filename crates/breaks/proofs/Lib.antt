-- The laws that the functions' proofs cite. They are cited above too.
pub mod Breaking
