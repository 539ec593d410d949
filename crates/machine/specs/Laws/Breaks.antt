-- The walk of `\R`, by whether the bytes of its three items are there.
use Rattle.std.specs.Prelude.{◌≡◌, Bool, ℕ, suc}
use Rattle.std.proofs.Math.Path.{refl}
use mathlib.Core.List.{List, [], ◌∷◌, append-nil}
use Rattle.std.proofs.Math.Bool.{true, false}
use Rattle.syntax.specs.Sets.{single, only, Class, in_class}
use Rattle.syntax.specs.Tree.{byte_in, return_or_feeds, line_break, branch_count}
use Rattle.semantics.specs.States.{branch, State, chose, moved}
use Rattle.semantics.specs.Items.{fails, goes, toll, try}
use Rattle.semantics.specs.Walk.{step, miss, Trace, Go, ◌▹◌, done, tried, paying, to_first, walk}
use Rattle.machine.specs.Moves.{tested, takes, is_return, is_feed, is_break}
use Rattle.machine.specs.Laws.Extent.{tested-none, tested-one}

-- what is told by a return, a feed behind it, and any byte that breaks a line alone, each there or not, and how it goes on
unfoldable pub broken_by : (return feed alone : Bool) → (place : ℕ) → State → Go → Trace
broken_by true true alone place s k = step ∷ step ∷ step ∷ step ∷ step ∷ k (moved (suc (suc s.at)) (chose (branch 0) s))
broken_by true false true place s k = step ∷ step ∷ step ∷ miss place (suc s.at) ∷ step ∷ step ∷ step ∷ k (moved (suc s.at) (chose (branch 1) s))
broken_by true false false place s k = step ∷ step ∷ step ∷ miss place (suc s.at) ∷ step ∷ miss place s.at ∷ []
broken_by false feed true place s k = step ∷ step ∷ miss place s.at ∷ step ∷ step ∷ step ∷ k (moved (suc s.at) (chose (branch 1) s))
broken_by false feed false place s k = step ∷ step ∷ miss place s.at ∷ step ∷ miss place s.at ∷ []

module _ (sub : List ℕ) (c : Class) (s : State) where
  -- a byte item that has its byte, or not
  hit : takes sub (in_class false c) s.at ≡ true → try sub (byte_in false c) s ≡ goes (moved (suc s.at) s)
  unfolding try tested
  hit e = tested-one sub (in_class false c) s e

  lack : takes sub (in_class false c) s.at ≡ false → try sub (byte_in false c) s ≡ fails
  unfolding try tested
  lack e = tested-none sub (in_class false c) s e

module _ (sub : List ℕ) (place : ℕ) (s : State) (k : Go) where
  -- the states in which the two branches begin
  abbrev s₀ : State
  s₀ = chose (branch 0) s

  abbrev s₁ : State
  s₁ = chose (branch 1) s

  pub break-bind : walk sub (line_break place) s ▹ k ≡ broken_by (takes sub is_return s.at) (takes sub is_feed (suc s.at)) (takes sub is_break s.at) place s k
  unfolding walk line_break branch_count toll paying tried done to_first ◌▹◌ broken_by chose moved
  break-bind = by (takes sub is_return s.at) refl (takes sub is_feed (suc s.at)) refl (takes sub is_break s.at) refl
    where
      by : (a : Bool) → takes sub is_return s.at ≡ a → (b : Bool) → takes sub is_feed (suc s.at) ≡ b → (c : Bool) → takes sub is_break s.at ≡ c → walk sub (line_break place) s ▹ k ≡ broken_by a b c place s k
      by true x true y c z = rw (hit sub (only (single 0x0D)) s₀ x, hit sub (only (single 0x0A)) (moved (suc s.at) s₀) y, append-nil (k (moved (suc (suc s.at)) s₀)))
      by true x false y true z = rw (hit sub (only (single 0x0D)) s₀ x, lack sub (only (single 0x0A)) (moved (suc s.at) s₀) y, hit sub return_or_feeds s₁ z, append-nil (k (moved (suc s.at) s₁)))
      by true x false y false z = rw (hit sub (only (single 0x0D)) s₀ x, lack sub (only (single 0x0A)) (moved (suc s.at) s₀) y, lack sub return_or_feeds s₁ z)
      by false x b y true z = rw (lack sub (only (single 0x0D)) s₀ x, hit sub return_or_feeds s₁ z, append-nil (k (moved (suc s.at) s₁)))
      by false x b y false z = rw (lack sub (only (single 0x0D)) s₀ x, lack sub return_or_feeds s₁ z)
