-- What is told of the node behind a group's end.
pub mod Behind
