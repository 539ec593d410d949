-- What a rule means on a subject, in the order in which to read it; proofs/Laws has the facts that are proved of it.
-- docs/REFERENCE.md, 13 to 16
pub mod Assertions
pub mod States
pub mod Items
pub mod Repeats
pub mod Derivations
pub mod Walk
pub mod Theorem
pub mod Runs
pub mod Answers
pub mod NameIndex
pub mod Explanations
pub mod Scans
pub mod Calls
pub mod Proposals
pub mod Checks
pub mod Batches
pub mod Demands
pub mod ScanDemands
pub mod CheckDemands
pub mod BatchDemands
pub mod Profile
pub mod Budgets
pub mod Computing
pub mod Checked
pub mod Samples
