-- What is kept of the failures of a line that is not matched, over one walk (Leading) and over all (Best).
-- docs/REFERENCE.md, 16.5
pub mod Leading
pub mod Best
pub mod Laws
