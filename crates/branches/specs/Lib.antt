-- What the promises of this crate name.
pub mod Onward
