-- What is read from the promises of the gateway program's functions. What it writes is defined in gateway_line.
-- docs/REFERENCE.md, 19.1
pub mod Counts
