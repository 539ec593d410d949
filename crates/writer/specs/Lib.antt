-- What a writer of numbers promises.
pub mod Wrote
