-- `called_at` meets its contract, by the byte behind the `k`.
use mathlib.Core.Path.{refl, sym}
use native.Mathlib.Omega.{arith}
use Rattle.lexemes.proofs.CalledCases.{same_name, called-brace, called-angle, called-apostrophe, called-other}
use Rattle.lexemes.proofs.called.called_at.Goals as goal

pub returns-in-123 : goal.returns-in-123
returns-in-123 c = same_name _ c.name_at.result (called-brace _ _ _ c.peek.ensures.is c.in-123.is) (c.name_at.ensures "}" refl)

pub returns-in-60 : goal.returns-in-60
returns-in-60 c = same_name _ c.name_at-in-60.result (called-angle _ _ _ c.peek.ensures.is c.in-60.is) (c.name_at-in-60.ensures ">" refl)

pub returns-in-39 : goal.returns-in-39
returns-in-39 c = same_name _ c.name_at-in-39.result (called-apostrophe _ _ _ c.peek.ensures.is c.in-39.is) (c.name_at-in-39.ensures "'" refl)

pub returns-in_default : goal.returns-in_default
returns-in_default c = rw c.at.ensures (sym (called-other _ _ _ c.peek.ensures.is (λ e. omega (arith, c.in_default)) (λ e. omega (arith, c.in_default)) (λ e. omega (arith, c.in_default))))
