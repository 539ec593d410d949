-- What is proved of the reading of a rule, and of its compiled classes.
pub mod Blanks
pub mod Forward
pub mod Within
pub mod Fuel
pub mod Formation
pub mod Names
pub mod Profile
pub mod Checkable
pub mod ClassTest
