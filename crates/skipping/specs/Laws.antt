-- Starts that are passed: what holds before one start and is carried over each that cannot begin holds before the start that is come to.
use Rattle.std.specs.Prelude.{◌≡◌, List, ◌⊎◌, Bool, ℕ, zero, suc, ◌+◌, ◌-◌, ◌*◌, ◌≤◌, ◌<◌, length}
use Rattle.std.proofs.Common.{inl, inr, arith}
use Rattle.openings.specs.Openings.{Outside}
use Rattle.skipping.specs.Passing.{Passed}

-- `P start steps` is what is carried
module _ (P : ℕ → ℕ → Type 0) (cost : ℕ) where
  carried : (d begin steps : ℕ) → ((i s : ℕ) → begin ≤ i → i < begin + d → P i s → P (i + 1) (s + cost)) → P begin steps → P (begin + d) (steps + d * cost)
  carried zero begin steps each x = let z : begin + 0 ≡ begin = omega arith in let y : steps + 0 * cost ≡ steps = omega arith in rw (z, y) x
  carried (suc d) begin steps each x =
      let z : begin + 1 + d ≡ begin + suc d = omega arith in
      let y : steps + cost + d * cost ≡ steps + suc d * cost = omega arith in
      rw (z, y) at (carried d (begin + 1) (steps + cost) (λ i s l h. each i s (omega arith) (omega arith)) (each begin steps (omega arith) (omega arith) x))

  module _ {set : List ℕ} {any : Bool} {sub : List ℕ} {begin from : ℕ} (passed : Passed set any sub cost begin from) where
    within : (i : ℕ) → begin ≤ i → i < from → i < length sub
    within i l h = by passed.inside
      where
        by : (from ≡ begin) ⊎ (from ≤ length sub) → i < length sub
        by (inl e) = omega arith
        by (inr e) = omega arith

    pub passes : (steps : ℕ) → ((i s : ℕ) → begin ≤ i → i < from → i < length sub → Outside set any sub i → P i s → P (i + 1) (s + cost)) → P begin steps → P from (steps + (from - begin) * cost)
    passes steps each x =
        let z : begin + (from - begin) ≡ from = omega (arith, passed.on) in
        rw z at (carried (from - begin) begin steps (λ i s l h. each i s l (omega (arith, passed.on)) (within i l (omega (arith, passed.on))) (passed.missed i l (omega (arith, passed.on)))) x)
