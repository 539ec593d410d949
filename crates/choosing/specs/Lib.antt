-- The choices of a walk, written down: the log stays within what is lent for it.
pub mod Logs
pub mod Walks
