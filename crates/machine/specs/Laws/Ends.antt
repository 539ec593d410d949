-- Ends of a run that fail at once: where the node that follows asks for a byte that does not stand at an end, so many steps lead to the next
-- lower end, and from the lowest one they fall back. Such nodes are a byte item, a run that owes a round, and the end of a group before either.
use Rattle.std.specs.Prelude.{◌≡◌, refl, List, [], ◌∷◌, Bool, true, false, get_or, drop, eqb}
use Prim.Native.Nat.{ℕ, zero, suc, ◌+◌, ◌*◌, ◌-◌, ◌≤◌}
use native.Mathlib.Omega.{arith}
use borrow.Author.Tests.{lt-ltb, le-ltb, lt-leb}
use Rattle.charset.specs.Class.{has}
use Rattle.syntax.specs.Limits.{unset}
use Rattle.semantics.specs.Repeats.{is_full}
use Rattle.semantics.specs.Walk.{step, miss}
use Rattle.machine.specs.Code.{Program, pick_most, most_of, repeat_at}
use Rattle.machine.specs.Moves.{Stack, Now, emitting, set2, saved, go, go_set, takes, strides, stopped, descend, below, ends_of, fall, ran, bytes_of, carry_out, move}
use Rattle.machine.specs.Ready.{Leads, stay, Missed, Asks}
use Rattle.machine.specs.Laws.Code.{decode-at}
use Rattle.machine.specs.Laws.Extent.{extent-none}
use Rattle.machine.specs.Laws.Loop.{move-run, leads-run, leads-join}
use Rattle.machine.specs.Laws.Run.{fall-saved}
use Rattle.machine.specs.Laws.Branches.{leads-on, move-miss}

-- some rounds are allowed
pub not_full : (n : ℕ) → 1 ≤ n → is_full (most_of n) 0 ≡ false
unfolding most_of pick_most is_full
not_full n h = by (eqb n unset)
  where
    by : (b : Bool) → is_full (pick_most b n) 0 ≡ false
    by true = refl
    by false = lt-leb n 0 (omega arith)

module _ (p : Program) (sub : List ℕ) (pc : ℕ) where
  pub asks-byte : get_or p pc 0 ≡ 0 → Asks p sub pc 1 (has (drop (pc + 3) p))
  asks-byte is at regs st e = leads-on p sub stay is (omega arith) (move-miss p sub pc at regs st is e)

  module _ (is : get_or p pc 0 ≡ 10) (owes : 1 ≤ get_or p (pc + 2) 0) (some : 1 ≤ get_or p (pc + 3) 0) where
    abbrev body : ℕ
    body = get_or p (pc + 6) 0

    -- it takes no byte, and its rounds are too few
    move-none : (at : ℕ) (regs : List ℕ) (st : Stack) → takes sub (has (drop (body + 3) p)) at ≡ false
        → move p sub (record { pc = pc; at = at; regs = regs; stack = st }) ≡ record { first = step; more = miss (get_or p (body + 2) 0) at ∷ []; after = fall p regs st }
    unfolding ran bytes_of strides stopped ends_of repeat_at
    move-none at regs st e =
        let six : pc + 2 + 4 ≡ pc + 6 = omega arith in
        let three : pc + 2 + 1 ≡ pc + 3 = omega arith in
        let none : at + 0 ≡ at = omega arith in
        rw (move-run p sub (record { pc = pc; at = at; regs = regs; stack = st }) is, six, extent-none sub (has (drop (body + 3) p)) _ at e, three, not_full (get_or p (pc + 3) 0) some, lt-ltb 0 (get_or p (pc + 2) 0) owes, none)

    pub asks-run : Asks p sub pc 2 (has (drop (body + 3) p))
    asks-run at regs st e = leads-run p sub _ _ is (move-none at regs st e)

  move-close : (at : ℕ) (regs : List ℕ) (st : Stack) → get_or p pc 0 ≡ 4
      → move p sub (record { pc = pc; at = at; regs = regs; stack = st }) ≡ emitting step (go_set (get_or p (pc + 3) 0) (get_or regs (get_or p (pc + 2) 0) 0) at (get_or p (pc + 1) 0) at regs st)
  unfolding move carry_out
  move-close at regs st is = rw (decode-at p pc 4 is)

  -- the end of a group is a step more, and what it writes is undone when the node behind it fails
  pub asks-close : (cost : ℕ) (f : ℕ → Bool) → get_or p pc 0 ≡ 4 → Asks p sub (get_or p (pc + 1) 0) cost f → Asks p sub pc (cost + 1) f
  asks-close cost f is asks at regs st e =
      let slot = get_or p (pc + 3) 0 in
      let from = get_or regs (get_or p (pc + 2) 0) 0 in
      let z : cost + 1 ≡ 0 + 1 + cost = omega arith in
      rw (z, ← fall-saved p slot from at regs st) (leads-join p sub (leads-on p sub stay is (omega arith) (move-close at regs st is)) (asks at (set2 regs slot from at) (saved regs slot ∷ st) e))

-- From an end down, where the node asks for a byte of the set f.
module _ {p : Program} {sub : List ℕ} {pc cost : ℕ} (f : ℕ → Bool) (asks : Asks p sub pc cost f) (low : ℕ) (regs : List ℕ) (st : Stack) where
  abbrev from : ℕ → Now
  from high = go pc high regs (below pc high low st)

  fall-below : (at : ℕ) → low ≤ at → fall p regs (below pc (suc at) low st) ≡ from at
  unfolding descend fall
  fall-below at h = let z : suc at - 1 ≡ at = omega arith in rw (lt-ltb low (suc at) (omega arith), z)

  fall-last : fall p regs (below pc low low st) ≡ fall p regs st
  unfolding descend
  fall-last = rw (le-ltb low low (omega arith))

  -- others are left
  pub ends-passed : (n high : ℕ) → low + n ≤ high → Missed sub f high n → Leads p sub (from high) (n * cost) (from (high - n))
  ends-passed zero high h m = let y : 0 * cost ≡ 0 = omega arith in let z : high - 0 ≡ high = omega arith in rw (y, z) stay
  ends-passed (suc n) high h m =
      let z : high - n ≡ suc (high - suc n) = omega arith in
      let w : suc n * cost ≡ n * cost + cost = omega arith in
      let l : Leads p sub (from high) (n * cost) (from (suc (high - suc n))) = rw z at (ends-passed n high (omega arith) (λ j k. m j (omega arith))) in
      rw (w, ← fall-below (high - suc n) (omega arith)) (leads-join p sub l (asks (suc (high - suc n)) regs (below pc (suc (high - suc n)) low st) (rw z at (m n (omega arith)))))

  -- none is left
  pub ends-none : (n high : ℕ) → low ≤ high → n ≡ suc (high - low) → Missed sub f high n → Leads p sub (from high) (n * cost) (fall p regs st)
  ends-none n high h e m =
      let y : high - (high - low) ≡ low = omega arith in
      let w : n * cost ≡ (high - low) * cost + cost = rw e (omega arith) in
      let l : Leads p sub (from high) ((high - low) * cost) (from low) = rw y at (ends-passed (high - low) high (omega arith) (λ j k. m j (omega arith))) in
      rw (w, ← fall-last) (leads-join p sub l (asks low regs (below pc low low st) (rw y at (m (high - low) (omega arith)))))
