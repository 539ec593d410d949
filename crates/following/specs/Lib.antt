-- What following a whole path promises (Paths). Laws has that it treads the path of Proposals. What a turn is, and what it treads, stands in `turns`.
-- docs/REFERENCE.md, 16.10
pub mod Paths
pub mod Laws
