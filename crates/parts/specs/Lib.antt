-- What the readers of parts and of the ends of groups promise.
pub mod Says
