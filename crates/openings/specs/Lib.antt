-- Starts that cannot begin: what a caller is told (Openings), and how it is found, by following the machine where every byte fails (Failing).
-- Laws has the facts that are proved of it.
pub mod Openings
pub mod Failing
pub mod Laws
