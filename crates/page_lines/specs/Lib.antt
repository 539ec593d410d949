-- What the contracts speak of: the rule that is held (Rules), and what follows for the calls (Laws).
-- docs/REFERENCE.md, 19.2, 19.3
pub mod Rules
pub mod Laws
