-- What the readers of escapes and named sets promise.
pub mod Says
