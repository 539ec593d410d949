-- What successive matches tell is what their call returns.
pub mod Scans
