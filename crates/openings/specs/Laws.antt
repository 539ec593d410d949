-- What is proved of failing: of steps one after the other, of each kind of node, and of a search.
pub mod Leading
pub mod Nodes
pub mod Searching
