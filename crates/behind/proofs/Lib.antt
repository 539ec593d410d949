-- The laws of groups that close in vain, which the functions' proofs cite. They are cited above too.
pub mod Vain
