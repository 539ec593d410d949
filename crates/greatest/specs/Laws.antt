-- Facts about the failures that are kept.
pub mod Leading
pub mod Best
