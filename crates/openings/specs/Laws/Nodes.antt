-- Each kind of node where every byte fails: the steps that it makes, and the nodes at which the machine goes on.
use Rattle.std.specs.Prelude.{◌≡◌, List, [], ◌∷◌, Bool, true, false, ℕ, zero, suc, ◌+◌, ◌≤◌, ◌<◌, get_or, drop, eqb}
use Rattle.std.proofs.Math.Path.{refl}
use native.Mathlib.Omega.{arith}
use borrow.Author.Tests.{lt-ltb, le-ltb, le-leb, ne_eqb}
use Rattle.charset.specs.Class.{has}
use Rattle.syntax.specs.declared.Greed.TheVariants.{Lazy}
use Rattle.syntax.specs.Limits.{unset}
use Rattle.semantics.specs.Assertions.{holds}
use Rattle.semantics.specs.Items.{when}
use Rattle.semantics.specs.Repeats.{is_full, allowed, decision}
use Rattle.semantics.specs.Walk.{step, miss}
use Rattle.machine.specs.Code.{pick_most, most_of, greed_of, assertion_of, repeat_at, decode_as}
use Rattle.machine.specs.Moves.{explore, again, Stack, set2, saved, go, begin, bump, tested, price, paid, takes, strides, stopped, descend, ends_of, fall, decided, decides, tried, ran, bytes_of, carry_out, move}
use Rattle.machine.specs.Ready.{Leads}
use Rattle.machine.specs.Laws.Code.{decode-at}
use Rattle.machine.specs.Laws.Ends.{not_full, asks-byte, asks-run}
use Rattle.machine.specs.Laws.Extent.{extent-none, extent-full}
use Rattle.machine.specs.Laws.Loop.{leads-run, leads-join}
use Rattle.machine.specs.Laws.Run.{fall-saved}
use Rattle.openings.specs.Failing.{Reduces, nobody}
use Rattle.openings.specs.Laws.Leading.{leads-move}

-- How numbers are read ---------------------------------------------------------------

full : is_full (most_of 0) 0 ≡ true
unfolding most_of pick_most is_full unset
full = by (eqb 0 unset) refl
  where
    by : (b : Bool) → eqb 0 unset ≡ b → is_full (pick_most b 0) 0 ≡ true
    by true e = let z : ◌≡◌ {A = ℕ} 0 1 = cc in absurd (omega arith)
    by false e = le-leb 0 0 (omega arith)

lazy-read : (n : ℕ) → (n ≡ 0 → ⊥) → greed_of n ≡ Lazy
unfolding greed_of
lazy-read zero h = absurd (h refl)
lazy-read (suc n) h = refl

module _ (p : List ℕ) (pc : ℕ) where
  -- Ways on, whatever the node -------------------------------------------------------

  module _ (f : ℕ → Bool) (c : ℕ) (few : c ≤ 2) where
    -- a node that falls back
    gives_up : ((sub : List ℕ) (at : ℕ) (regs : List ℕ) (st : Stack) → 1 ≤ at → takes sub f at ≡ false → Leads p sub (go pc at regs st) c (fall p regs st)) → Reduces p pc f [] c
    gives_up e = record { few = few; fails = λ sub at n l x h. let z : c + n ≡ c = omega arith in rw z (record { back = λ regs st. e sub at regs st l x }) }

    -- a node that goes on at another, over a stack that falls back to the same
    goes_on : (next : ℕ)
        → ((sub : List ℕ) (at : ℕ) (regs : List ℕ) (st : Stack) → takes sub f at ≡ false → (regs' : List ℕ) × (st' : Stack) × Leads p sub (go pc at regs st) c (go next at regs' st') × (fall p regs' st' ≡ fall p regs st))
        → Reduces p pc f (next ∷ []) c
    goes_on next e = record {
      few = few;
      fails = λ sub at n l x h.
          let z : n ≡ h.0 = omega (arith, h.2, h.4) in
          rw z (record { back = λ regs st. let w = e sub at regs st x in leads-join p sub w.2 (rw w.3 at (h.3.back w.0 w.1)) });
    }

  -- the same in one step
  module _ (kind : ℕ) (is : get_or p pc 0 ≡ kind) (low : kind ≤ 8) where
    sees-leaf : (f : ℕ → Bool) → ((sub : List ℕ) (at : ℕ) (regs : List ℕ) (st : Stack) → 1 ≤ at → takes sub f at ≡ false → (carry_out p sub (decode_as kind p pc) at regs st).after ≡ fall p regs st) → Reduces p pc f [] 1
    sees-leaf f e = gives_up f 1 (omega arith) (λ sub at regs st l x. leads-move p sub kind pc at regs st _ is low (e sub at regs st l x))

    sees-on : (next : ℕ)
        → ((sub : List ℕ) (at : ℕ) (regs : List ℕ) (st : Stack) → (regs' : List ℕ) × (st' : Stack) × ((carry_out p sub (decode_as kind p pc) at regs st).after ≡ go next at regs' st') × (fall p regs' st' ≡ fall p regs st))
        → Reduces p pc nobody (next ∷ []) 1
    sees-on next e = goes_on nobody 1 (omega arith) next (λ sub at regs st x. let w = e sub at regs st in (w.0, w.1, leads-move p sub kind pc at regs st _ is low w.2, w.3))

    -- a node that goes on at one, and when that has failed at another
    sees_both : (first second : ℕ)
        → ((sub : List ℕ) (at : ℕ) (regs : List ℕ) (st : Stack)
        → (regs₁ : List ℕ) × (st₁ : Stack) × (regs₂ : List ℕ) × (st₂ : Stack) × ((carry_out p sub (decode_as kind p pc) at regs st).after ≡ go first at regs₁ st₁) × (fall p regs₁ st₁ ≡ go second at regs₂ st₂) × (fall p regs₂ st₂ ≡ fall p regs st))
        → Reduces p pc nobody (first ∷ second ∷ []) 1
    sees_both first second e = record {
      few = omega arith;
      fails = λ sub at n l x h.
          let y = h.4 in
          let z : n ≡ h.0 + y.0 = omega (arith, h.2, y.2, y.4) in
          rw z (record {
            back = λ regs st.
                let w = e sub at regs st in
                leads-join p sub (leads-move p sub kind pc at regs st _ is low w.4)
                (leads-join p sub (rw w.5 at (h.3.back w.0 w.1)) (rw w.6 at (y.3.back w.2 w.3)));
          });
    }

  -- Nodes of one step ------------------------------------------------------------------

  pub sees-byte : get_or p pc 0 ≡ 0 → Reduces p pc (has (drop (pc + 3) p)) [] 1
  sees-byte is = gives_up (has (drop (pc + 3) p)) 1 (omega arith) (λ sub at regs st l x. asks-byte p sub pc is at regs st x)

  pub sees-text-start : get_or p pc 0 ≡ 1 → get_or p (pc + 3) 0 ≡ 0 → Reduces p pc nobody [] 1
  unfolding carry_out price paid tried tested holds when assertion_of
  sees-text-start is which = sees-leaf 1 is (omega arith) _ (λ sub at regs st l x. rw (which, ne_eqb at 0 (omega arith)))

  pub sees-open : get_or p pc 0 ≡ 3 → Reduces p pc nobody (get_or p (pc + 1) 0 ∷ []) 1
  unfolding carry_out
  sees-open is = sees-on 3 is (omega arith) _ (λ sub at regs st. (_, _, refl, fall-saved p _ _ _ regs st))

  pub sees-close : get_or p pc 0 ≡ 4 → Reduces p pc nobody (get_or p (pc + 1) 0 ∷ []) 1
  unfolding carry_out
  sees-close is = sees-on 4 is (omega arith) _ (λ sub at regs st. (_, _, refl, fall-saved p _ _ _ regs st))

  pub sees-branch : get_or p pc 0 ≡ 5 → Reduces p pc nobody (get_or p (pc + 1) 0 ∷ get_or p (pc + 2) 0 ∷ []) 1
  unfolding carry_out fall
  sees-branch is = sees_both 5 is (omega arith) _ _ (λ sub at regs st. (regs, explore (get_or p (pc + 2) 0) at ∷ st, regs, st, refl, refl, refl))

  pub sees-last : get_or p pc 0 ≡ 6 → Reduces p pc nobody (get_or p (pc + 1) 0 ∷ []) 1
  unfolding carry_out
  sees-last is = sees-on 6 is (omega arith) _ (λ sub at regs st. (regs, st, refl, refl))

  -- Repeats as they are entered ----------------------------------------------------------

  module _ (is : get_or p pc 0 ≡ 7) where
    pub sees-owed : 0 < get_or p (pc + 2) 0 → Reduces p pc nobody (get_or p (pc + 6) 0 ∷ []) 1
    unfolding carry_out decides decided decision allowed begin repeat_at
    sees-owed owes =
        let six : pc + 2 + 4 ≡ pc + 6 = omega arith in
        sees-on 7 is (omega arith) _ (λ sub at regs st. (_, _, rw (lt-ltb 0 (get_or p (pc + 2) 0) owes, six), fall-saved p (get_or p (pc + 2 + 3) 0) (bump 0) at regs st))

    module _ (free : get_or p (pc + 2) 0 ≡ 0) where
      pub sees-none : get_or p (pc + 3) 0 ≡ 0 → Reduces p pc nobody (get_or p (pc + 7) 0 ∷ []) 1
      unfolding carry_out decides decided decision allowed repeat_at
      sees-none bare =
          let three : pc + 2 + 1 ≡ pc + 3 = omega arith in
          let seven : pc + 2 + 5 ≡ pc + 7 = omega arith in
          sees-on 7 is (omega arith) _ (λ sub at regs st. (regs, st, rw (free, three, bare, full, seven), refl))

      module _ (some : get_or p (pc + 3) 0 ≡ 0 → ⊥) where
        pub sees-greedy : get_or p (pc + 4) 0 ≡ 0 → Reduces p pc nobody (get_or p (pc + 6) 0 ∷ get_or p (pc + 7) 0 ∷ []) 1
        unfolding carry_out decides decided decision allowed begin fall repeat_at greed_of
        sees-greedy greed =
            let three : pc + 2 + 1 ≡ pc + 3 = omega arith in
            let four : pc + 2 + 2 ≡ pc + 4 = omega arith in
            let six : pc + 2 + 4 ≡ pc + 6 = omega arith in
            let seven : pc + 2 + 5 ≡ pc + 7 = omega arith in
            sees_both 7 is (omega arith) _ _
            (λ sub at regs st. (
              set2 regs (get_or p (pc + 2 + 3) 0) (bump 0) at,
              saved regs (get_or p (pc + 2 + 3) 0) ∷ explore (get_or p (pc + 7) 0) at ∷ st,
              regs,
              st,
              rw (free, three, not_full (get_or p (pc + 3) 0) (omega arith), four, greed, six, seven),
              fall-saved p (get_or p (pc + 2 + 3) 0) (bump 0) at regs (explore (get_or p (pc + 7) 0) at ∷ st),
              refl,
            ))

        pub sees-lazy : (get_or p (pc + 4) 0 ≡ 0 → ⊥) → Reduces p pc nobody (get_or p (pc + 7) 0 ∷ get_or p (pc + 6) 0 ∷ []) 1
        unfolding carry_out decides decided decision allowed begin fall repeat_at
        sees-lazy greed =
            let three : pc + 2 + 1 ≡ pc + 3 = omega arith in
            let four : pc + 2 + 2 ≡ pc + 4 = omega arith in
            let six : pc + 2 + 4 ≡ pc + 6 = omega arith in
            let seven : pc + 2 + 5 ≡ pc + 7 = omega arith in
            sees_both 7 is (omega arith) _ _
            (λ sub at regs st. (
              regs,
              again (pc + 2) (bump 0) at ∷ st,
              set2 regs (get_or p (pc + 2 + 3) 0) (bump 0) at,
              saved regs (get_or p (pc + 2 + 3) 0) ∷ st,
              rw (free, three, not_full (get_or p (pc + 3) 0) (omega arith), four, lazy-read (get_or p (pc + 4) 0) greed, seven),
              rw six,
              fall-saved p (get_or p (pc + 2 + 3) 0) (bump 0) at regs st,
            ))

  -- Runs -------------------------------------------------------------------------------------

  -- A run that takes no byte falls back if it owes a round, else it goes on where it stands.
  module _ (is : get_or p pc 0 ≡ 10) where
    pub sees-run-owed : 0 < get_or p (pc + 2) 0 → (get_or p (pc + 3) 0 ≡ 0 → ⊥) → Reduces p pc (has (drop (get_or p (pc + 6) 0 + 3) p)) [] 2
    sees-run-owed owes some = gives_up (has (drop (get_or p (pc + 6) 0 + 3) p)) 2 (omega arith) (λ sub at regs st l x. asks-run p sub pc is owes (omega arith) at regs st x)

    module _ (free : get_or p (pc + 2) 0 ≡ 0) where
      pub sees-run-none : get_or p (pc + 3) 0 ≡ 0 → Reduces p pc nobody (get_or p (pc + 7) 0 ∷ []) 1
      unfolding move carry_out ran bytes_of strides stopped descend ends_of fall repeat_at
      sees-run-none bare =
          let three : pc + 2 + 1 ≡ pc + 3 = omega arith in
          let six : pc + 2 + 4 ≡ pc + 6 = omega arith in
          let seven : pc + 2 + 5 ≡ pc + 7 = omega arith in
          goes_on nobody 1 (omega arith) _
          (λ sub at regs st x.
          let none : at + 0 ≡ at = omega arith in (
            regs,
            st,
            leads-run p sub (record { pc = pc; at = at; regs = regs; stack = st }) (record { first = step; more = []; after = go (get_or p (pc + 7) 0) at regs st }) is
                (rw (decode-at p pc 10 is, six, three, bare, extent-full sub (has (drop (get_or p (pc + 6) 0 + 3) p)) (most_of 0) 0 at full, full, free, seven, none, le-ltb at at (omega arith))),
            refl,
          ))

      pub sees-run : (get_or p (pc + 3) 0 ≡ 0 → ⊥) → Reduces p pc (has (drop (get_or p (pc + 6) 0 + 3) p)) (get_or p (pc + 7) 0 ∷ []) 2
      unfolding move carry_out ran bytes_of strides stopped descend ends_of fall repeat_at
      sees-run some =
          let three : pc + 2 + 1 ≡ pc + 3 = omega arith in
          let six : pc + 2 + 4 ≡ pc + 6 = omega arith in
          let seven : pc + 2 + 5 ≡ pc + 7 = omega arith in
          goes_on (has (drop (get_or p (pc + 6) 0 + 3) p)) 2 (omega arith) _
          (λ sub at regs st x.
          let none : at + 0 ≡ at = omega arith in (
            regs,
            st,
            leads-run p sub (record { pc = pc; at = at; regs = regs; stack = st }) (record { first = step; more = miss (get_or p (get_or p (pc + 6) 0 + 2) 0) at ∷ []; after = go (get_or p (pc + 7) 0) at regs st }) is
                (rw (decode-at p pc 10 is, six, three, extent-none sub (has (drop (get_or p (pc + 6) 0 + 3) p)) _ at x, not_full (get_or p (pc + 3) 0) (omega arith), free, seven, none, le-ltb at at (omega arith))),
            refl,
          ))
