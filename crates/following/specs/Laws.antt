-- What is proved of following a path.
pub mod Follows
