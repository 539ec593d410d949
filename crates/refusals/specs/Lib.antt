-- The refusals before the rule is read: what is answered (Fitness), and which of them a call meets (Laws).
-- docs/REFERENCE.md, 10.2
pub mod Fitness
pub mod Laws
