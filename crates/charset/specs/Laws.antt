-- The facts that are proved of the definitions.
pub mod Cases
pub mod Tables
