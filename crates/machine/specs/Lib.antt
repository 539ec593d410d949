-- The machine that walks a compiled rule over a subject, in the order in which to read it: nodes as instructions (Code), what a move does
-- and what the machine emits (Moves), how the code's numbers stand for that (Words), running to the next end (Ready), and what callers use
-- (Theorem). Laws has the facts that are proved of it.
-- docs/REFERENCE.md, 14
pub mod Code
pub mod Moves
pub mod Words
pub mod Ready
pub mod Theorem
pub mod Laws
