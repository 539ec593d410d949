-- Facts about the lookup.
pub mod Names
pub mod Rows
pub mod Lookup
pub mod Filled
