-- `link_reference` meets its contract: its two tests are those of `dangling`.
use native.Mathlib.Omega.{arith}
use Rattle.syntax.specs.Limits.{rule_area_need, group_limit}
use Rattle.linker.proofs.Stores.{none-zero, none-beyond, referred}
use Rattle.linker.proofs.link_reference.Goals as goal
use Rattle.linker.proofs.link_reference.Goals.{then-number-eq0-via-then-number-eq0, then-number-eq0-via-else-number-eq0+then-groups-number}

pub returns-then-number-eq0 : goal.returns-then-number-eq0
returns-then-number-eq0 c = elim c.then-number-eq0.branch [
  | then-number-eq0-via-then-number-eq0 w ↦ none-zero _ _ _ _ _ _ _ c.word.ensures.0 c.word-number.ensures.0 w.if-number-eq0.true
  | then-number-eq0-via-else-number-eq0+then-groups-number w ↦ none-beyond _ _ _ _ _ _ _ c.word.ensures.0 c.word-number.ensures.0 w.if-number-eq0.false w.if-groups-number.true
]

pub put-requires : goal.put-requires
unfolding rule_area_need
put-requires c = (omega arith, omega arith)

pub put-requires-2 : goal.put-requires-2
unfolding group_limit
put-requires-2 c = (omega arith, omega arith)

pub returns : goal.returns
returns c = referred _ _ _ _ _ _ _ _ c.word-number.ensures.0 c.if-number-eq0.false (omega arith) c.put.ensures c.put-2.ensures
