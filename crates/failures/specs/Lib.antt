-- What is told over one walk of a line that is not matched (Accounts), and the walks in which it is found (Walks). What is kept of it stands in `greatest`.
-- docs/REFERENCE.md, 16.5
pub mod Accounts
pub mod Walks
pub mod Laws
