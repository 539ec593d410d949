-- Facts about rows in the result area, and about parts of the work area.
pub mod Rows
pub mod Holding
pub mod Parts
