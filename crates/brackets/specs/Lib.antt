-- What the readers of the openings of groups promise.
pub mod Says
