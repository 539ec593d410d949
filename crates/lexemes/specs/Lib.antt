-- What the readers of bytes, numbers and names promise.
pub mod Says
