-- What measuring a rule promises.
pub mod Measures
