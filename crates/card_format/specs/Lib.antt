-- Rule cards, 02's request i): what they are, and the calls that write and read them. In the order in which to read it; Places says where the bytes of a
-- card stand, and proofs/Laws has the facts that are proved of it.
-- docs/REFERENCE.md, 17
pub mod Cards
pub mod CardDemands
pub mod Places
pub mod Computing
pub mod Examples
