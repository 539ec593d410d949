-- Facts about cards.
pub mod Cutting
pub mod Pieces
pub mod Scanning
pub mod Written
pub mod Ruling
pub mod Filling
