-- The laws that the functions' proofs cite. MemberCases is cited above too.
pub mod MemberCases
pub mod ClassCases
