-- `same_byte` meets its contract: by the test that was taken, the definition's first or second one decides.
use mathlib.Core.Path.{◌≡◌}
use mathlib.Core.Bool.{Bool, true, false}
use Prim.Native.Nat.{ℕ}
use lib.Dec.{eqb}
use borrow.Author.Tests.{eq-eqb, ne_eqb}
use Rattle.charset.specs.Cases.{other_case, folding}
use Rattle.semantics.specs.Items.{same_byte}
use Rattle.nodes.proofs.references.same_byte.Goals as goal

equal : (folded : Bool) (c d : ℕ) → c ≡ d → true ≡ same_byte folded c d
unfolding same_byte folding
equal folded c d e = rw (eq-eqb c d e)

by-case : (folded : Bool) (c d : ℕ) → (c ≡ d → ⊥) → folded ≡ true → eqb c (other_case d) ≡ same_byte folded c d
unfolding same_byte folding
by-case folded c d n f = rw (ne_eqb c d n, f)

unequal : (folded : Bool) (c d : ℕ) → (c ≡ d → ⊥) → folded ≡ false → false ≡ same_byte folded c d
unfolding same_byte folding
unequal folded c d n f = rw (ne_eqb c d n, f)

pub returns-then-c-d : goal.returns-then-c-d
returns-then-c-d c = equal _ _ _ c.if-c-d.true

pub returns-then-folded : goal.returns-then-folded
returns-then-folded c = rw c.other_case.ensures (by-case _ _ _ c.if-c-d.false c.if-folded.true)

pub returns : goal.returns
returns c = unequal _ _ _ c.if-c-d.false c.if-folded.false
