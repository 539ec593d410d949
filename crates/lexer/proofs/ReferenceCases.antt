-- Which case of a reference holds, from the tests that the readers make. Assumes nothing.
use mathlib.Core.Path.{◌≡◌}
use mathlib.Core.List.{List}
use Prim.Native.Nat.{ℕ, ◌+◌, ◌-◌, ◌≤◌, ◌<◌}
use native.Mathlib.Omega.{arith}
use borrow.Author.Tests.{le-leb, lt-leb, eq-eqb, ne_eqb}
use Rattle.syntax.specs.declared.Reason.TheVariants.{MalformedEscape}
use Rattle.syntax.specs.declared.Refusal.{Refusal}
use Rattle.syntax.specs.Limits.{group_limit}
use Rattle.syntax.specs.Read.{byte, Read, sound, refused, and_then}
use Rattle.syntax.specs.Numbers.{digits, value}
use Rattle.syntax.specs.Escapes.{forward, backward, decimal, signed, group_number}
use Rattle.syntax.specs.declared.Parsed.{Parsed}
use Rattle.lexemes.specs.Says.{capped, Counts}
use Rattle.lexemes.proofs.Capped.{capped-zero, capped-minus, capped-if}
use Rattle.lexemes.proofs.Digits.{counted_none, counted-some}

-- a run of digits, and the group that f makes of its number
module _ (f : ℕ → ℕ) (s : List ℕ) (at start : ℕ) (r : Parsed ℕ) (c : Counts 10 s start r) where
  abbrev named : Read ℕ
  named = and_then (decimal s at start) (λ n next. sound (f n) next)

  pub number-none : r.next ≡ start → refused at MalformedEscape ≡ named
  unfolding decimal
  number-none e = simp (counted_none 10 s start r c e)

  pub number-some : (r.next ≡ start → ⊥) → ((n : ℕ) → f (capped n) ≡ f n) → (g : ℕ) → g ≡ f r.value → sound g r.next ≡ named
  unfolding decimal
  number-some n k g e = rw (e, c.value, k (value 10 (digits 10 s start)), c.next) (simp (counted-some 10 s start r c n))

pub forward-capped : (n : ℕ) → forward (capped n) ≡ forward n
unfolding forward group_limit
forward-capped n = capped-if group_limit (omega arith) n (λ x. x) 0

pub backward-capped : (opened n : ℕ) → opened ≤ group_limit → backward opened (capped n) ≡ backward opened n
unfolding backward group_limit
backward-capped opened n h = rw (capped-zero n, capped-minus (opened + 1) (omega arith) n)

pub forward-over : (n : ℕ) → group_limit < n → 0 ≡ forward n
unfolding forward group_limit
forward-over n h = simp (lt-leb n group_limit h)

pub forward-fits : (n : ℕ) → n ≤ group_limit → n ≡ forward n
unfolding forward group_limit
forward-fits n h = simp (le-leb n group_limit h)

pub backward-none : (opened n : ℕ) → n ≡ 0 → 0 ≡ backward opened n
unfolding backward
backward-none opened n e = simp (eq-eqb n 0 e)

pub backward-some : (opened n : ℕ) → (n ≡ 0 → ⊥) → opened + 1 - n ≡ backward opened n
unfolding backward
backward-some opened n z = simp (ne_eqb n 0 z)

module _ (s : List ℕ) (opened at start b : ℕ) (p : b ≡ byte s start) where
  pub signed-minus : b ≡ 45 → and_then (decimal s at (start + 1)) (λ n next. sound (backward opened n) next) ≡ signed s opened at start
  unfolding signed
  signed-minus e = rw (← p, e)

  pub signed-plain : (b ≡ 45 → ⊥) → and_then (decimal s at start) (λ n next. sound (forward n) next) ≡ signed s opened at start
  unfolding signed
  signed-plain n = rw (← p) (simp (ne_eqb b 45 n))

module _ (s : List ℕ) (opened at b : ℕ) (p : b ≡ byte s (at + 2)) where
  pub group-bare : (b ≡ 123 → ⊥) → signed s opened at (at + 2) ≡ group_number s opened at
  unfolding group_number
  group-bare n = rw (← p) (simp (ne_eqb b 123 n))

  module _ (o : b ≡ 123) where
    pub group-bad : (f : Refusal) → refused f.place f.reason ≡ signed s opened at (at + 3) → refused f.place f.reason ≡ group_number s opened at
    unfolding group_number
    group-bad f e = rw (← p, o, ← e)

    -- r is what was read behind the brace
    module _ (r : Parsed ℕ) (e : sound r.value r.next ≡ signed s opened at (at + 3)) (d : ℕ) (q : d ≡ byte s r.next) where
      pub group-closed : d ≡ 125 → sound r.value (r.next + 1) ≡ group_number s opened at
      unfolding group_number
      group-closed h = rw (← p, o, ← e, ← q, h)

      pub group-open : (d ≡ 125 → ⊥) → refused at MalformedEscape ≡ group_number s opened at
      unfolding group_number
      group-open h = rw (← p, o, ← e, ← q) (simp (ne_eqb d 125 h))
