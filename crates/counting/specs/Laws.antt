-- Facts about the lines of a buffer, as they are counted.
pub mod Lines
