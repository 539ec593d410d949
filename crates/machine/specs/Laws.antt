-- What is proved of the machine: first of single nodes, then that it emits the walk of a rule, then of runs to the next end.
pub mod Code
pub mod Registers
pub mod Run
pub mod Rounds
pub mod Extent
pub mod Breaks
pub mod Walk
pub mod Stack
pub mod Loop
pub mod Branches
pub mod Ends
