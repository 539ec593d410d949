-- What the readers of classes promise.
pub mod Says
