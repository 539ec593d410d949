-- What the readers of test vectors promise.
pub mod Text
pub mod Laws
