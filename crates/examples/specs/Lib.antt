-- Examples of the calls, computed from the rules' bytes: 01's checked readings, its traps, and the inputs that tell the readings of open points apart.
-- docs/REFERENCE.md, 12 to 16
pub mod Starred
pub mod Traps
