-- How negative looking ahead is entered.
pub mod Notes
