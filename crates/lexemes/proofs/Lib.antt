-- The laws that the functions' proofs cite, and some of those above.
pub mod Bytes
pub mod Capped
pub mod Digits
pub mod Runs
pub mod BlankCases
pub mod BreakCases
pub mod Repeats
pub mod CalledCases
