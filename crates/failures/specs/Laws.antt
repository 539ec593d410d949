-- Facts about plain walks, and about what is told in them.
pub mod Accounts
pub mod Walks
pub mod Marks
