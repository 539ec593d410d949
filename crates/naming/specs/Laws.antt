-- Facts for whoever fills the name index.
pub mod Entries
