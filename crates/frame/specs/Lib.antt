-- What all calls share: their inputs and returns (Inputs), and a rule that is made ready (Preparing). The refusals before the rule is read stand in
-- `refusals`.
-- docs/REFERENCE.md, 16.1
pub mod Inputs
pub mod Preparing
pub mod Laws
