-- What the readers of single items promise.
pub mod Says
