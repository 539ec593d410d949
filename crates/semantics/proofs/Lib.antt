-- The laws that are proved of the definitions.
pub mod Laws
pub mod Theorem
pub mod DemandsHold
pub mod CheckDemandsHold
pub mod BatchDemandsHold
