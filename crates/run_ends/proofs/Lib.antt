-- The laws of the bytes of a run, which the functions' proofs cite. They are cited above too.
pub mod Bytes
