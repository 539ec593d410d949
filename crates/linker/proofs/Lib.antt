-- Laws that the proofs of the linker's functions cite.
pub mod Regions
pub mod Compiled
mod Made
mod Stores
pub mod Trees
mod Items
mod Groups
mod Repeats
mod Plains
pub mod Chains
mod Branches
pub mod Insides
