-- `\R` by the two bytes that the code met.
use mathlib.Core.Path.{◌≡◌, sym, ◌∙◌}
use mathlib.Core.List.{List}
use mathlib.Core.Bool.{false}
use Prim.Native.Nat.{ℕ, ◌+◌}
use lib.Dec.{eqb}
use borrow.Author.Tests.{ne_eqb}
use Rattle.syntax.specs.Read.{byte}
use Rattle.syntax.specs.Grammar.{breaks_line}
use Rattle.lexemes.specs.Says.{Peeked}

module _ (s : List ℕ) (at : ℕ) {b : ℕ} (p : Peeked s at b) where
  pub breaks-not : (b ≡ 92 → ⊥) → false ≡ breaks_line s at
  unfolding breaks_line
  breaks-not ne = rw (ne_eqb (byte s at) 92 (λ e. ne (p.is ∙ e)))

  pub breaks-by : {d : ℕ} → b ≡ 92 → Peeked s (at + 1) d → eqb d 82 ≡ breaks_line s at
  unfolding breaks_line
  breaks-by e q = let z : byte s at ≡ 92 = sym p.is ∙ e in rw (z, ← q.is)
