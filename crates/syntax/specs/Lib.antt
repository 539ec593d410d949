-- The reading of a rule: from its bytes and the flags to its syntax tree, or to a refusal. In the order in which to read it; Laws has
-- the facts that are proved of it.
-- docs/REFERENCE.md, 4
pub mod Limits
pub mod Refusals
pub mod Read
pub mod Sets
pub mod Tree
pub mod Numbers
pub mod Flags
pub mod Names
pub mod Escapes
pub mod Classes
pub mod Quantifiers
pub mod Grammar
pub mod Lengths
pub mod Reading
pub mod Checkable
pub mod WellFormed
pub mod Compiled
pub mod Laws
pub mod Computing
pub mod Verdicts
