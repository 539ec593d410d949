-- Facts for whoever calls the readers, and for the readers' own loops.
pub mod Digits
pub mod Ends
pub mod Bytes
pub mod WordEnds
