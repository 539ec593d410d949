-- What the readers of sequences, groups and alternations promise.
pub mod Areas
pub mod Says
pub mod Compiles
