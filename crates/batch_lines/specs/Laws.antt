-- Facts about where a line ends, and about the parts of lines.
pub mod Lines
pub mod Parts
