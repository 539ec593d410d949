-- What comparing the bytes of a reference tells.
pub mod Comparing
