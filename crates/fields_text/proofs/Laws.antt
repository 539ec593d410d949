-- Facts about the table's text: for proofs (Writing, Cases), and for its readers, that no column can be forged (Columns) and none is lost (Decoding).
pub mod Writing
pub mod Cases
pub mod Columns
pub mod Decoding
