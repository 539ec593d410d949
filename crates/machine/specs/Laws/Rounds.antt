-- Counting rounds up to the greatest bound changes no decision.
use Rattle.std.specs.Prelude.{◌≡◌, refl, Bool, true, false, ℕ, suc, ◌≤◌, min, ltb, leb}
use Rattle.std.proofs.Common.{sym, ◌∙◌, arith, ltb-true, ltb-false, leb-true, leb-false, lt-ltb, le-ltb, le-leb}
use Rattle.std.proofs.lemmas.Bool.{lt-leb}
use Rattle.syntax.specs.declared.Greed.{Greed}
use Rattle.syntax.specs.declared.Most.{Most}
use Rattle.syntax.specs.declared.Most.TheVariants.{AtMost, Unlimited}
use Rattle.syntax.specs.Limits.{bound_limit}
use Rattle.syntax.specs.WellFormed.{BoundsFit}
use Rattle.semantics.specs.Repeats.{is_full, decision}
use Rattle.machine.specs.Moves.{bump}

-- the count of n rounds
unfoldable pub counted : ℕ → ℕ
counted n = min n bound_limit

pub counted_none : counted 0 ≡ 0
unfolding counted
counted_none = omega arith

pub bump-counted : (n : ℕ) → bump (counted n) ≡ counted (suc n)
unfolding bump counted
bump-counted n = omega arith

owed-counted : (n least : ℕ) → least ≤ bound_limit → ltb (counted n) least ≡ ltb n least
unfolding counted
owed-counted n least h = go (ltb n least) refl
  where
    go : (b : Bool) → ltb n least ≡ b → ltb (min n bound_limit) least ≡ ltb n least
    go true e = lt-ltb (min n bound_limit) least (omega (arith, ltb-true n least e)) ∙ sym e
    go false e = le-ltb (min n bound_limit) least (omega (arith, ltb-false n least e)) ∙ sym e

full-counted : (m n : ℕ) → m ≤ bound_limit → leb m (counted n) ≡ leb m n
unfolding counted
full-counted m n h = go (leb m n) refl
  where
    go : (b : Bool) → leb m n ≡ b → leb m (min n bound_limit) ≡ leb m n
    go true e = le-leb m (min n bound_limit) (omega (arith, leb-true m n e)) ∙ sym e
    go false e = lt-leb m (min n bound_limit) (omega (arith, leb-false m n e)) ∙ sym e

pub decision-counted : (least : ℕ) (most : Most) (g : Greed) (n : ℕ) (still : Bool) → BoundsFit least most → decision least most g (counted n) still ≡ decision least most g n still
unfolding decision is_full
decision-counted least (AtMost m) g n still h = rw (owed-counted n least (omega (arith, h.0, h.1)), full-counted m n h.1)
decision-counted least Unlimited g n still h = rw (owed-counted n least h)
