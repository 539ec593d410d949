-- What the contracts speak of: the rule that is held.
pub mod Rules
