-- Facts for whoever makes a call of its inside.
pub mod Areas
pub mod Calls
pub mod Compiled
pub mod Preparing
pub mod Parts
