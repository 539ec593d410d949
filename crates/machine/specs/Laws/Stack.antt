-- What a move or falling back leaves of the stack: at most two frames more, all in range, and the same registers once all is undone.
use Rattle.std.specs.Prelude.{◌≡◌, Bool, length, ltb}
use Rattle.std.proofs.Math.Path.{refl, ap}
use Rattle.std.proofs.Common.{◌∙◌}
use mathlib.Core.List.{List, [], ◌∷◌}
use Rattle.semantics.specs.Walk.{Trace}
use Rattle.std.proofs.Math.Bool.{true, false}
use Prim.Native.Nat.{ℕ, zero, suc, ◌+◌, ◌-◌, ◌≤◌}
use native.Mathlib.Omega.{arith}
use Rattle.std.proofs.Math.ListN.{get_or}
use Rattle.syntax.specs.declared.Greed.TheVariants.{Greedy, Lazy}
use Rattle.semantics.specs.Items.{Tried, fails, goes}
use Rattle.semantics.specs.Repeats.{Next, round, leave, either}
use Rattle.machine.specs.Code.{Program, Repeat, repeat_at, decode_as, decode, RepeatFits, FitsAs, Fits}
use Rattle.machine.specs.Moves.{explore, again, undo, stretch, Stack, Configuration, Now, Move, paid, set2, saved, go, begin, cut, bump, price, takes, descend, ends_of, is_return, is_feed, is_break, fall, decided, decides, tried, ran, broke_alone, broke, carry_out, move}
use Rattle.machine.specs.Words.{stack_of}
use Rattle.machine.specs.Ready.{StackFits, frames, replay, origin}
use Rattle.machine.specs.Laws.Code.{spans-in-registers}
use Rattle.machine.specs.Laws.Registers.{undo-set2}

pub length-stack_of : (work : List ℕ) (h : ℕ) → length (stack_of work h) ≡ h
unfolding stack_of
length-stack_of work zero = refl
length-stack_of work (suc h) = ap suc (length-stack_of work h)

-- at most n frames, all in range, with the registers `first` once all is undone
pub record Leaves (p : Program) (n : ℕ) (first : List ℕ) (now : Now) : Type 0 where
  pub low : length (frames now) ≤ n
  pub fits : StackFits p (frames now)
  pub back : origin now ≡ first

leaves-more : {p : Program} {n m : ℕ} {first : List ℕ} {now : Now} → n ≤ m → Leaves p n first now → Leaves p m first now
leaves-more h x = record { low = omega (arith, x.low); fits = x.fits; back = x.back }

-- steps before a move change nothing of what it leaves
pub paid-after : (n : ℕ) (m : Move) → (paid n m).after ≡ m.after
unfolding paid
paid-after zero m = refl
paid-after (suc n) m = paid-after n m

module _ (p : Program) where
  pub replay-saved : (regs : List ℕ) (i a b : ℕ) (st : Stack) → replay (set2 regs i a b) (saved regs i ∷ st) ≡ replay regs st
  unfolding replay
  replay-saved regs i a b st = ap (λ (x : List ℕ). replay x st) (undo-set2 regs i a b)

  begin-leaves : (q n at : ℕ) (regs : List ℕ) (st : Stack) → RepeatFits p q → StackFits p st → Leaves p (length st + 1) (replay regs st) (begin (repeat_at p q) n at regs st)
  unfolding begin repeat_at
  begin-leaves q n at regs st s f = record { low = omega arith; fits = (s.1, f); back = replay-saved regs (repeat_at p q).register n at st }

  descend-leaves : (b : Bool) (pc high low : ℕ) (regs : List ℕ) (st : Stack) → StackFits p st → Leaves p (length st + 1) (replay regs st) (go pc high regs (descend b pc high low st))
  unfolding descend replay
  descend-leaves true pc high low regs st f = record { low = omega arith; fits = (tt, f); back = refl }
  descend-leaves false pc high low regs st f = record { low = omega arith; fits = f; back = refl }

  pub fall-leaves : (regs : List ℕ) (st : Stack) → StackFits p st → Leaves p (length st) (replay regs st) (fall p regs st)
  unfolding fall replay
  fall-leaves regs [] f = record { low = omega arith; fits = tt; back = refl }
  fall-leaves regs (explore pc at ∷ st) f = record { low = omega arith; fits = f.1; back = refl }
  fall-leaves regs (again q n at ∷ st) f = leaves-more (omega arith) (begin-leaves q n at regs st f.0 f.1)
  fall-leaves regs (undo i a b ∷ st) f = leaves-more (omega arith) (fall-leaves (set2 regs i a b) st f.1)
  fall-leaves regs (stretch pc high low ∷ st) f = leaves-more (omega arith) (descend-leaves (ltb low high) pc high low regs st f.1)

  decided-leaves : (d : Next) (q n at : ℕ) (regs : List ℕ) (st : Stack) → RepeatFits p q → StackFits p st → Leaves p (length st + 2) (replay regs st) (decided p d q n at regs st)
  unfolding decided replay
  decided-leaves round q n at regs st s f = leaves-more (omega arith) (begin-leaves q (bump n) at regs st s f)
  decided-leaves leave q n at regs st s f = record { low = omega arith; fits = f; back = refl }
  decided-leaves (either Greedy) q n at regs st s f = leaves-more (omega arith) (begin-leaves q (bump n) at regs (explore (repeat_at p q).next at ∷ st) s (tt, f))
  decided-leaves (either Lazy) q n at regs st s f = record { low = omega arith; fits = (s, f); back = refl }

  tried-leaves : (x : Tried) (place next at : ℕ) (regs : List ℕ) (st : Stack) → StackFits p st → Leaves p (length st + 2) (replay regs st) (tried p x place next at regs st).after
  unfolding tried
  tried-leaves fails place next at regs st f = leaves-more (omega arith) (fall-leaves regs st f)
  tried-leaves (goes t) place next at regs st f = record { low = omega arith; fits = f; back = refl }

  ends-leaves : (b : Bool) (pc high low : ℕ) (regs : List ℕ) (st : Stack) → StackFits p st → Leaves p (length st + 2) (replay regs st) (fall p regs (ends_of b pc high low st))
  unfolding ends_of fall
  ends-leaves true pc high low regs st f = leaves-more (omega arith) (fall-leaves regs st f)
  ends-leaves false pc high low regs st f = leaves-more (omega arith) (descend-leaves (ltb low high) pc high low regs st f)

  ran-leaves : (q : Repeat) (k at : ℕ) (regs : List ℕ) (st : Stack) → StackFits p st → Leaves p (length st + 2) (replay regs st) (ran p q k at regs st).after
  unfolding ran
  ran-leaves q k at regs st f = ends-leaves _ _ _ _ regs st f

  broke_alone-leaves : (b : Bool) (place next at : ℕ) (regs : List ℕ) (st : Stack) (before : Trace → Trace) → StackFits p st → Leaves p (length st + 2) (replay regs st) (broke_alone p b place next at regs st before).after
  unfolding broke_alone
  broke_alone-leaves true place next at regs st before f = record { low = omega arith; fits = f; back = refl }
  broke_alone-leaves false place next at regs st before f = leaves-more (omega arith) (fall-leaves regs st f)

  broke-leaves : (b c d : Bool) (place next at : ℕ) (regs : List ℕ) (st : Stack) → StackFits p st → Leaves p (length st + 2) (replay regs st) (broke p b c d place next at regs st).after
  unfolding broke
  broke-leaves true true d place next at regs st f = record { low = omega arith; fits = f; back = refl }
  broke-leaves true false d place next at regs st f = broke_alone-leaves d place next at regs st _ f
  broke-leaves false c d place next at regs st f = broke_alone-leaves d place next at regs st _ f

  -- giving choices up
  pub cut_low : (n : ℕ) (st : Stack) → length (cut n st) ≤ length st
  unfolding cut
  cut_low zero st = omega arith
  cut_low (suc n) [] = omega arith
  cut_low (suc n) (explore pc at ∷ st) = omega (arith, cut_low n st)
  cut_low (suc n) (again q m at ∷ st) = omega (arith, cut_low n st)
  cut_low (suc n) (undo i a b ∷ st) = omega (arith, cut_low n st)
  cut_low (suc n) (stretch pc high low ∷ st) = omega (arith, cut_low n st)

  pub cut_fits : (n : ℕ) (st : Stack) → StackFits p st → StackFits p (cut n st)
  unfolding cut
  cut_fits zero st f = f
  cut_fits (suc n) [] f = tt
  cut_fits (suc n) (explore pc at ∷ st) f = cut_fits n st f.1
  cut_fits (suc n) (again q m at ∷ st) f = cut_fits n st f.1
  cut_fits (suc n) (undo i a b ∷ st) f = (f.0, cut_fits n st f.1)
  cut_fits (suc n) (stretch pc high low ∷ st) f = cut_fits n st f.1

  cut-replay : (n : ℕ) (regs : List ℕ) (st : Stack) → replay regs (cut n st) ≡ replay regs st
  unfolding cut replay
  cut-replay zero regs st = refl
  cut-replay (suc n) regs [] = refl
  cut-replay (suc n) regs (explore pc at ∷ st) = cut-replay n regs st
  cut-replay (suc n) regs (again q m at ∷ st) = cut-replay n regs st
  cut-replay (suc n) regs (undo i a b ∷ st) = cut-replay n (set2 regs i a b) st
  cut-replay (suc n) regs (stretch pc high low ∷ st) = cut-replay n regs st

  kept_leaves : (n next at : ℕ) (regs : List ℕ) (st : Stack) → StackFits p st → Leaves p (length st + 2) (replay regs st) (go next at regs (cut n st))
  kept_leaves n next at regs st f = record { low = omega (arith, cut_low n st); fits = cut_fits n st f; back = cut-replay n regs st }

  refuted-leaves : (n : ℕ) (regs : List ℕ) (st : Stack) → StackFits p st → Leaves p (length st + 2) (replay regs st) (fall p regs (cut n st))
  refuted-leaves n regs st f = let x = fall-leaves regs (cut n st) (cut_fits n st f) in record { low = omega (arith, x.low, cut_low n st); fits = x.fits; back = x.back ∙ cut-replay n regs st }

  module _ (sub : List ℕ) where
    pub carried-leaves : (n pc at : ℕ) (regs : List ℕ) (st : Stack) → FitsAs n p pc → StackFits p st → Leaves p (length st + 2) (replay regs st) (carry_out p sub (decode_as n p pc) at regs st).after
    unfolding carry_out price paid replay decides
    carried-leaves zero pc at regs st w f = tried-leaves _ _ _ at regs st f
    carried-leaves (suc zero) pc at regs st w f = tried-leaves _ _ _ at regs st f
    carried-leaves (suc (suc zero)) pc at regs st w f = absurd w
    carried-leaves (suc (suc (suc zero))) pc at regs st w f = record { low = omega arith; fits = (w.1, f); back = replay-saved regs _ at 0 st }
    carried-leaves (suc (suc (suc (suc zero)))) pc at regs st w f =
        record { low = omega arith; fits = (omega (arith, w.2, spans-in-registers), f); back = replay-saved regs (get_or p (pc + 3) 0) (get_or regs (get_or p (pc + 2) 0) 0) at st }
    carried-leaves (suc (suc (suc (suc (suc zero))))) pc at regs st w f = record { low = omega arith; fits = (tt, f); back = refl }
    carried-leaves (suc (suc (suc (suc (suc (suc zero)))))) pc at regs st w f = record { low = omega arith; fits = f; back = refl }
    carried-leaves (suc (suc (suc (suc (suc (suc (suc zero))))))) pc at regs st w f = decided-leaves _ (pc + 2) 0 at regs st w f
    carried-leaves (suc (suc (suc (suc (suc (suc (suc (suc zero)))))))) pc at regs st w f = decided-leaves _ (pc + 1) _ at regs st w f
    carried-leaves (suc (suc (suc (suc (suc (suc (suc (suc (suc zero))))))))) pc at regs st w f = leaves-more (omega arith) (fall-leaves regs st f)
    carried-leaves (suc (suc (suc (suc (suc (suc (suc (suc (suc (suc zero)))))))))) pc at regs st w f = ran-leaves _ _ at regs st f
    carried-leaves (suc (suc (suc (suc (suc (suc (suc (suc (suc (suc (suc zero))))))))))) pc at regs st w f = rw paid-after (tried-leaves _ _ _ at regs st f)
    carried-leaves (suc (suc (suc (suc (suc (suc (suc (suc (suc (suc (suc (suc zero)))))))))))) pc at regs st w f = broke-leaves (takes sub is_return at) (takes sub is_feed (suc at)) (takes sub is_break at) _ _ at regs st f
    carried-leaves (suc (suc (suc (suc (suc (suc (suc (suc (suc (suc (suc (suc (suc zero))))))))))))) pc at regs st w f = record { low = omega arith; fits = (w.1, f); back = replay-saved regs _ (length st) at st }
    carried-leaves (suc (suc (suc (suc (suc (suc (suc (suc (suc (suc (suc (suc (suc (suc zero)))))))))))))) pc at regs st w f = kept_leaves (length st - get_or regs (get_or p (pc + 2) 0) 0) (get_or p (pc + 1) 0) at regs st f
    carried-leaves (suc (suc (suc (suc (suc (suc (suc (suc (suc (suc (suc (suc (suc (suc (suc zero))))))))))))))) pc at regs st w f = kept_leaves (length st - get_or regs (get_or p (pc + 2) 0) 0) (get_or p (pc + 1) 0) (get_or regs (get_or p (pc + 2) 0 + 1) 0) regs st f
    carried-leaves (suc (suc (suc (suc (suc (suc (suc (suc (suc (suc (suc (suc (suc (suc (suc (suc zero)))))))))))))))) pc at regs st w f = record { low = omega arith; fits = (w.1, (tt, f)); back = replay-saved regs _ (length st) at (explore (get_or p (pc + 3) 0) at ∷ st) }
    carried-leaves (suc (suc (suc (suc (suc (suc (suc (suc (suc (suc (suc (suc (suc (suc (suc (suc (suc zero))))))))))))))))) pc at regs st w f = refuted-leaves (length st - get_or regs (get_or p (pc + 2) 0) 0) regs st f
    carried-leaves (suc (suc (suc (suc (suc (suc (suc (suc (suc (suc (suc (suc (suc (suc (suc (suc (suc (suc n)))))))))))))))))) pc at regs st w f = absurd w

    pub move-leaves : (c : Configuration) → Fits p c.pc → StackFits p c.stack → Leaves p (length c.stack + 2) (replay c.regs c.stack) (move p sub c).after
    unfolding move decode
    move-leaves c f g = carried-leaves (get_or p c.pc 0) c.pc c.at c.regs c.stack f.node g
