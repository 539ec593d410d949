-- `is_name` meets its contract, by the length and the first byte.
use Rattle.syntax.specs.Limits.{name_limit}
use native.Mathlib.Omega.{arith}
use Rattle.lexemes.proofs.CalledCases.{name-none, name-long, name-fits}
use Rattle.lexemes.proofs.called.is_name.Goals as goal

pub returns-then-len-eq0 : goal.returns-then-len-eq0
returns-then-len-eq0 c = name-none _ _ _ (omega arith) c.if-len-eq0.true

pub returns-then-len-gt-NAME_LIMIT : goal.returns-then-len-gt-NAME_LIMIT
unfolding name_limit
returns-then-len-gt-NAME_LIMIT c = name-long _ _ _ (omega arith) c.if-len-gt-NAME_LIMIT.true

pub returns : goal.returns
unfolding name_limit
returns c = name-fits _ _ _ (omega arith) c.if-len-eq0.false (omega arith) _ c.in_named.ensures
