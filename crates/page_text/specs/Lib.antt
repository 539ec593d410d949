-- What a page shows of a line (Showing), and what is known of it (proofs/Laws).
-- docs/REFERENCE.md, 19.5
pub mod Showing
