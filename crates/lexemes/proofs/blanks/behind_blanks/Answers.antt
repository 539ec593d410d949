-- `behind_blanks` meets its contract, by the flag.
use mathlib.Core.Path.{sym, ◌∙◌}
use Rattle.syntax.specs.Grammar.{behind_blanks}
use Rattle.lexemes.proofs.blanks.behind_blanks.Goals as goal

pub returns-then-is_extended : goal.returns-then-is_extended
unfolding behind_blanks
returns-then-is_extended c = rw (sym c.is_extended.ensures ∙ c.if-is_extended.true) c.skip_blanks.ensures

pub returns : goal.returns
unfolding behind_blanks
returns c = rw (sym c.is_extended.ensures ∙ c.if-is_extended.false)
