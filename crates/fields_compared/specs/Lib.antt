-- Whether another reading has other fields (Readings).
-- docs/REFERENCE.md, 19.3
pub mod Readings
pub mod Laws
