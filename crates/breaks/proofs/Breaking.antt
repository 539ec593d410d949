-- `\R` in the code's numbers: which of its three items have their bytes, and that so many steps lead to where it goes on.
use mathlib.Core.Path.{◌≡◌, refl, ap, sym, ◌∙◌}
use mathlib.Core.List.{List}
use mathlib.Core.Bool.{Bool, true, false, ◌&&◌, ◌||◌}
use Prim.Native.Nat.{ℕ, suc, ◌+◌, ◌≤◌, ◌<◌}
use native.Mathlib.Omega.{arith}
use native.Mathlib.Numerals.{add-one}
use lib.ListN.{length, get_or}
use lib.Dec.{eqb, leb, ltb}
use borrow.Author.Tests.{eq-eqb, ne_eqb, eqb-true, le-leb, lt-leb}
use Rattle.charset.specs.Named.{in_range}
use Rattle.charset.specs.Cases.{folding}
use Rattle.syntax.specs.Read.{byte}
use Rattle.syntax.specs.Sets.{is_member, is_any, in_class, only}
use Rattle.syntax.specs.Tree.{return_or_feeds}
use Rattle.machine.specs.declared.Machine.{Machine}
use Rattle.machine.specs.Moves.{Stack, Move, go, takes, is_return, is_feed, is_break, fall, broke_alone, broke, carry_out, move}
use Rattle.machine.specs.Words.{stack_of, configuration_of, now_of}
use Rattle.machine.specs.Ready.{Leads, Overruns}
use Rattle.machine.specs.Laws.Code.{decode-at}
use Rattle.machine.specs.Laws.Extent.{takes-here, takes-past}
use Rattle.machine.specs.Laws.Loop.{leads-several}
use Rattle.breaks.specs.declared.Break.{Break}
use Rattle.breaks.specs.Breaks.{break_steps, break_bytes, BreaksAs}

-- Bytes -------------------------------------------------------------------------

or-none : (x : Bool) → ((x || false) || false) ≡ x
or-none true = refl
or-none false = refl

return-is : (b : ℕ) → is_return b ≡ eqb b 13
unfolding in_class only is_any is_member folding
return-is b = or-none (eqb b 13)

feed-is : (b : ℕ) → is_feed b ≡ eqb b 10
unfolding in_class only is_any is_member folding
feed-is b = or-none (eqb b 10)

break-is : (b : ℕ) → is_break b ≡ ((leb 10 b && leb b 13) || eqb b 133)
unfolding in_class return_or_feeds is_any is_member folding in_range
break-is b = by (leb 10 b && leb b 13) (eqb b 133)
  where
    by : (x y : Bool) → ((x || false) || ((y || false) || false)) ≡ (x || y)
    by true y = refl
    by false y = or-none y

break-range : (b : ℕ) → 10 ≤ b → b ≤ 13 → is_break b ≡ true
break-range b l h = break-is b ∙ rw (le-leb 10 b l, le-leb b 13 h)

break-single : (b : ℕ) → b ≡ 133 → is_break b ≡ true
break-single b e = break-is b ∙ rw (lt-leb b 13 (omega arith), le-leb 10 b (omega arith), eq-eqb b 133 e)

break-below : (b : ℕ) → b < 10 → is_break b ≡ false
break-below b h = break-is b ∙ rw (lt-leb 10 b h, ne_eqb b 133 (λ e. omega arith))

break-above : (b : ℕ) → 13 < b → (b ≡ 133 → ⊥) → is_break b ≡ false
break-above b h n = break-is b ∙ rw (lt-leb b 13 h, ne_eqb b 133 n) (by (leb 10 b))
  where
    by : (x : Bool) → ((x && false) || false) ≡ false
    by true = refl
    by false = refl

-- a return is among the bytes that break a line
pub return-breaks : (sub : List ℕ) (at : ℕ) → takes sub is_return at ≡ true → takes sub is_break at ≡ true
unfolding takes
return-breaks sub at e = by (ltb at (length sub)) e
  where
    by : (b : Bool) → (b && is_return (byte sub at)) ≡ true → (b && is_break (byte sub at)) ≡ true
    by true h = let z = eqb-true (byte sub at) 13 (sym (return-is (byte sub at)) ∙ h) in break-range (byte sub at) (omega arith) (omega arith)
    by false h = h

-- What the code tells -----------------------------------------------------------

module _ (sub : List ℕ) (at : ℕ) (l : at < length sub) where
  abbrev here : ℕ
  here = get_or sub at 0

  module _ (r : here ≡ 13) where
    return-yes : takes sub is_return at ≡ true
    return-yes = takes-here sub is_return at l ∙ return-is here ∙ eq-eqb here 13 r

    alone-yes : takes sub is_break at ≡ true
    alone-yes = takes-here sub is_break at l ∙ break-range here (omega (arith, r)) (omega (arith, r))

    pub break-both : at + 1 < length sub → get_or sub (at + 1) 0 ≡ 10 → BreaksAs sub at (record { steps = 5; bytes = 2 })
    unfolding break_steps break_bytes
    break-both h e =
        let f : takes sub is_feed (suc at) ≡ true = rw (← (add-one at)) (takes-here sub is_feed (at + 1) h ∙ feed-is (get_or sub (at + 1) 0) ∙ eq-eqb (get_or sub (at + 1) 0) 10 e) in
        record { steps = rw (return-yes, f); bytes = rw (return-yes, f); inside = λ _. omega arith }

    return_alone : takes sub is_feed (suc at) ≡ false → BreaksAs sub at (record { steps = 7; bytes = 1 })
    unfolding break_steps break_bytes
    return_alone f = record { steps = rw (return-yes, f, alone-yes); bytes = rw (return-yes, f, alone-yes); inside = λ _. omega arith }

    pub break-other : at + 1 < length sub → (get_or sub (at + 1) 0 ≡ 10 → ⊥) → BreaksAs sub at (record { steps = 7; bytes = 1 })
    break-other h e = return_alone (rw (← (add-one at)) (takes-here sub is_feed (at + 1) h ∙ feed-is (get_or sub (at + 1) 0) ∙ ne_eqb (get_or sub (at + 1) 0) 10 e))

    pub break-last : length sub ≤ at + 1 → BreaksAs sub at (record { steps = 7; bytes = 1 })
    break-last h = return_alone (rw (← (add-one at)) (takes-past sub is_feed (at + 1) h))

  module _ (n : here ≡ 13 → ⊥) where
    return-no : takes sub is_return at ≡ false
    return-no = takes-here sub is_return at l ∙ return-is here ∙ ne_eqb here 13 n

    by_byte : (b : Bool) → is_break here ≡ b → takes sub is_break at ≡ b
    by_byte b e = takes-here sub is_break at l ∙ e

    break-one : is_break here ≡ true → BreaksAs sub at (record { steps = 6; bytes = 1 })
    unfolding break_steps break_bytes
    break-one e = record { steps = rw (return-no, by_byte true e); bytes = rw (return-no, by_byte true e); inside = λ _. omega arith }

    break-not : is_break here ≡ false → BreaksAs sub at (record { steps = 5; bytes = 0 })
    unfolding break_steps break_bytes
    break-not e = record { steps = rw (return-no, by_byte false e); bytes = rw (return-no, by_byte false e); inside = λ n. absurd (n refl) }

module _ (b : ℕ) (n : b ≡ 13 → ⊥) (sub : List ℕ) (at : ℕ) (l : at < length sub) (is : b ≡ get_or sub at 0) where
  other : get_or sub at 0 ≡ 13 → ⊥
  other e = n (is ∙ e)

  pub break-next : b ≡ 133 → BreaksAs sub at (record { steps = 6; bytes = 1 })
  break-next e = break-one sub at l other (rw (← is) (break-single b e))

  pub break-feed : 10 ≤ b → b ≤ 13 → BreaksAs sub at (record { steps = 6; bytes = 1 })
  break-feed x y = break-one sub at l other (rw (← is) (break-range b x y))

  pub break-low : b < 10 → BreaksAs sub at (record { steps = 5; bytes = 0 })
  break-low x = break-not sub at l other (rw (← is) (break-below b x))

  pub break-high : 13 < b → (b ≡ 133 → ⊥) → BreaksAs sub at (record { steps = 5; bytes = 0 })
  break-high x y = break-not sub at l other (rw (← is) (break-above b x y))

pub break-past : (sub : List ℕ) (at : ℕ) → length sub ≤ at → BreaksAs sub at (record { steps = 5; bytes = 0 })
unfolding break_steps break_bytes
break-past sub at h = record { steps = rw (takes-past sub is_return at h, takes-past sub is_break at h); bytes = rw (takes-past sub is_return at h, takes-past sub is_break at h); inside = λ n. absurd (n refl) }

-- The move ------------------------------------------------------------------------

module _ (p : List ℕ) (place next at : ℕ) (regs : List ℕ) (st : Stack) where
  broke-long : (a b c : Bool) → suc (length (broke p a b c place next at regs st).more) ≡ break_steps a b c
  unfolding broke broke_alone break_steps
  broke-long true true c = refl
  broke-long true false true = refl
  broke-long true false false = refl
  broke-long false b true = refl
  broke-long false b false = refl

  broke-on : (a b c : Bool) → (break_bytes a b c ≡ 0 → ⊥) → (broke p a b c place next at regs st).after ≡ go next (at + break_bytes a b c) regs st
  unfolding broke broke_alone break_bytes
  broke-on true true c n = let e : suc (suc at) ≡ at + 2 = omega arith in rw e
  broke-on true false true n = let e : suc at ≡ at + 1 = omega arith in rw e
  broke-on true false false n = absurd (n refl)
  broke-on false b true n = let e : suc at ≡ at + 1 = omega arith in rw e
  broke-on false b false n = absurd (n refl)

  broke-back : (a b c : Bool) → break_bytes a b c ≡ 0 → (broke p a b c place next at regs st).after ≡ fall p regs st
  unfolding broke broke_alone break_bytes
  broke-back true true c e = absurd (omega arith)
  broke-back true false true e = absurd (omega arith)
  broke-back true false false e = refl
  broke-back false b true e = absurd (omega arith)
  broke-back false b false e = refl

module _ (p sub regs work : List ℕ) (m : Machine) (is : get_or p m.pc 0 ≡ 12) (live : m.live ≡ true) (b : Break) (tells : BreaksAs sub m.at b) where
  abbrev here' : ℕ → Stack → Move
  here' n st = broke p (takes sub is_return m.at) (takes sub is_feed (suc m.at)) (takes sub is_break m.at) n (get_or p (m.pc + 1) 0) m.at regs st

  abbrev made : Move
  made = here' (get_or p (m.pc + 2) 0) (stack_of work m.height)

  moves : move p sub (configuration_of regs work m) ≡ made
  unfolding move carry_out
  moves = rw (decode-at p m.pc 12 is)

  led : Leads p sub (now_of regs work m) b.steps made.after
  led = rw (live, tells.steps, ← (broke-long p (get_or p (m.pc + 2) 0) (get_or p (m.pc + 1) 0) m.at regs (stack_of work m.height) (takes sub is_return m.at) (takes sub is_feed (suc m.at)) (takes sub is_break m.at))) (leads-several p sub (configuration_of regs work m) made (omega (arith, is)) moves)

  -- where it leads
  pub break-on : (b.bytes ≡ 0 → ⊥) → (move p sub (configuration_of regs work m)).after ≡ go (get_or p (m.pc + 1) 0) (m.at + b.bytes) regs (stack_of work m.height)
  break-on n = ap (λ (z : Move). z.after) moves ∙ broke-on p _ _ m.at regs (stack_of work m.height) _ _ _ (λ e. n (tells.bytes ∙ e)) ∙ rw tells.bytes

  pub break-back : b.bytes ≡ 0 → (move p sub (configuration_of regs work m)).after ≡ fall p regs (stack_of work m.height)
  break-back e = ap (λ (z : Move). z.after) moves ∙ broke-back p _ _ m.at regs (stack_of work m.height) _ _ _ (sym tells.bytes ∙ e)

  pub break-goes : (b.bytes ≡ 0 → ⊥) → Leads p sub (now_of regs work m) b.steps (go (get_or p (m.pc + 1) 0) (m.at + b.bytes) regs (stack_of work m.height))
  break-goes n = rw tells.bytes (rw (broke-on p _ _ m.at regs (stack_of work m.height) _ _ _ (λ e. n (tells.bytes ∙ e))) at led)

  pub break-falls : b.bytes ≡ 0 → Leads p sub (now_of regs work m) b.steps (fall p regs (stack_of work m.height))
  break-falls e = rw (broke-back p _ _ m.at regs (stack_of work m.height) _ _ _ (sym tells.bytes ∙ e)) at led

  pub break-some : 1 ≤ b.steps
  break-some = omega (arith, tells.steps, broke-long p (get_or p (m.pc + 2) 0) (get_or p (m.pc + 1) 0) m.at regs (stack_of work m.height) (takes sub is_return m.at) (takes sub is_feed (suc m.at)) (takes sub is_break m.at))

  -- the steps are too few
  pub break-long : {left : ℕ} → left < b.steps → Overruns p sub (now_of regs work m) left
  break-long h = (b.steps, made.after, h, led)
