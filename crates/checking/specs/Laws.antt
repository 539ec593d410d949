-- What is proved of what a check tells, and of its call.
pub mod Verdicts
pub mod Calls
