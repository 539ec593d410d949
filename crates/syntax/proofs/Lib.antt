-- The laws that are proved of the definitions.
pub mod Laws
pub mod Same
