-- Following a path through a compiled rule, by the choices that were sent: one turn of it, and what it treads (Turns); how the code's results stand for that (Paces).
-- docs/REFERENCE.md, 16.10
pub mod Turns
pub mod Paces
