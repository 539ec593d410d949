-- What an explanation is told over a walk (Telling), and what a move tells it (Misses).
pub mod Telling
pub mod Misses
