-- What is told over a walk is what failed in it: the first of its greatest failures, or the marks.
use Rattle.std.specs.Prelude as option
use Rattle.std.specs.Prelude.{◌≡◌, Bool, None, Some, eqb, ltb, get_or, set, if◌then◌else◌}
use Rattle.std.proofs.Math.Path.{refl, ap}
use Rattle.std.proofs.Common.{◌∙◌, inl, inr, arith, lt-ltb, le-ltb}
use mathlib.Core.List.{List, [], ◌∷◌, ◌++◌}
use Rattle.std.proofs.Math.Bool.{true, false}
use Rattle.std.proofs.Math.Option.{Option, none, some}
use Prim.Native.Nat.{ℕ, zero, suc, ◌<◌}
use Rattle.syntax.specs.Limits.{unset}
use Rattle.semantics.specs.Walk.{step, miss, end, Trace}
use Rattle.semantics.specs.Explanations.{Failure, failed, greater, greatest, position, places_at, marked}
use Rattle.semantics.specs.Demands.{In}
use Rattle.machine.specs.Code.{Program, decode_as, decode}
use Rattle.machine.specs.Moves.{Configuration, carry_out, move}
use Rattle.machine.specs.Laws.Run.{Account}
use Rattle.plain.specs.declared.Miss.{Miss}
use Rattle.plain.specs.declared.Told.{Told}
use Rattle.plain.specs.declared.Told.TheVariants.{Item, Refuted}
use Rattle.plain.specs.Telling.{notes, hears, hears_all, hears_by}
use Rattle.plain.specs.Misses.{emitted, missed_of, OnceOrTwice}
use Rattle.greatest.specs.Leading.{failing, better, better_if, kept_by}
use Rattle.failures.specs.Accounts.{bests, marked_if, marked_by, marking}

-- By failures ----------------------------------------------------------------------

module _ (A : Account) where
  unfoldable pub tells_all : A.X → List Failure → A.X
  tells_all x [] = x
  tells_all x (f ∷ l) = tells_all (A.told x f.place f.at) l

  -- by what the code tells of a move, in an attempt from `start`
  unfoldable pub tells_by : (start : ℕ) → A.X → Told → A.X
  tells_by start x (Item r) = tells_all x (missed_of start r)
  tells_by start x (Refuted r) = A.settle r.note r.place x

  pub hears-failed : (start : ℕ) (x : A.X) (t : Trace) → hears_all A x t ≡ tells_all x (failed start t)
  unfolding hears_all hears tells_all failed
  hears-failed start x [] = refl
  hears-failed start x (step ∷ t) = hears-failed start x t
  hears-failed start x (miss place at ∷ t) = hears-failed start (A.told x place at) t
  hears-failed start x (end s ∷ t) = hears-failed start x t

  -- told twice is told once
  abbrev pub Steady : Type 0
  Steady = (x : A.X) (place at : ℕ) → A.told (A.told x place at) place at ≡ A.told x place at

  tells-twice : Steady → (start : ℕ) (x : A.X) (r : option.Option Miss) → tells_all x (missed_of start r ++ missed_of start r) ≡ tells_all x (missed_of start r)
  unfolding tells_all missed_of
  tells-twice s start x (Some r) = s x r.place r.at
  tells-twice s start x None = refl

  pub hears-missed : Steady → (start : ℕ) (x : A.X) (t : Trace) (r : option.Option Miss) → OnceOrTwice (failed start t) (missed_of start r) → hears_all A x t ≡ tells_all x (missed_of start r)
  hears-missed s start x t r (inl e) = hears-failed start x t ∙ ap (tells_all x) e
  hears-missed s start x t r (inr e) = hears-failed start x t ∙ ap (tells_all x) e ∙ tells-twice s start x r

  -- Where no `(?!` fails, a move tells what its events tell.
  pub hears-plain : (p : Program) (sub : List ℕ) (c : Configuration) (x : A.X) → (get_or p c.pc 0 ≡ 17 → ⊥)
      → hears_all A (hears_by A (notes (decode p c.pc)) x (move p sub c).first c.regs) (move p sub c).more ≡ hears_all A x (emitted (move p sub c))
  unfolding move decode hears_all
  hears-plain p sub c x n = ap (λ (y : A.X). hears_all A y (move p sub c).more) (by (get_or p c.pc 0) n)
    where
      by : (k : ℕ) → (k ≡ 17 → ⊥) → hears_by A (notes (decode_as k p c.pc)) x (carry_out p sub (decode_as k p c.pc) c.at c.regs c.stack).first c.regs ≡ hears A x (carry_out p sub (decode_as k p c.pc) c.at c.regs c.stack).first
      by zero n = unfold notes hears_by in refl
      by (suc zero) n = unfold notes hears_by in refl
      by (suc (suc zero)) n = unfold notes hears_by in refl
      by (suc (suc (suc zero))) n = unfold notes hears_by in refl
      by (suc (suc (suc (suc zero)))) n = unfold notes hears_by in refl
      by (suc (suc (suc (suc (suc zero))))) n = unfold notes hears_by in refl
      by (suc (suc (suc (suc (suc (suc zero)))))) n = unfold notes hears_by in refl
      by (suc (suc (suc (suc (suc (suc (suc zero))))))) n = unfold notes hears_by in refl
      by (suc (suc (suc (suc (suc (suc (suc (suc zero)))))))) n = unfold notes hears_by in refl
      by (suc (suc (suc (suc (suc (suc (suc (suc (suc zero))))))))) n = unfold notes hears_by in refl
      by (suc (suc (suc (suc (suc (suc (suc (suc (suc (suc zero)))))))))) n = unfold notes hears_by in refl
      by (suc (suc (suc (suc (suc (suc (suc (suc (suc (suc (suc zero))))))))))) n = unfold notes hears_by in refl
      by (suc (suc (suc (suc (suc (suc (suc (suc (suc (suc (suc (suc zero)))))))))))) n = unfold notes hears_by in refl
      by (suc (suc (suc (suc (suc (suc (suc (suc (suc (suc (suc (suc (suc zero))))))))))))) n = unfold notes hears_by in refl
      by (suc (suc (suc (suc (suc (suc (suc (suc (suc (suc (suc (suc (suc (suc zero)))))))))))))) n = unfold notes hears_by in refl
      by (suc (suc (suc (suc (suc (suc (suc (suc (suc (suc (suc (suc (suc (suc (suc zero))))))))))))))) n = unfold notes hears_by in refl
      by (suc (suc (suc (suc (suc (suc (suc (suc (suc (suc (suc (suc (suc (suc (suc (suc zero)))))))))))))))) n = unfold notes carry_out hears_by hears in refl
      by (suc (suc (suc (suc (suc (suc (suc (suc (suc (suc (suc (suc (suc (suc (suc (suc (suc zero))))))))))))))))) n = absurd (n refl)
      by (suc (suc (suc (suc (suc (suc (suc (suc (suc (suc (suc (suc (suc (suc (suc (suc (suc (suc n')))))))))))))))))) n = unfold notes hears_by in refl

-- The greatest of one start ----------------------------------------------------------

steady-greater : (x : Option Failure) (f : Failure) → greater position (greater position x f) f ≡ greater position x f
unfolding greater
steady-greater none f = rw (le-ltb f.at f.at (omega arith))
steady-greater (some y) f = by (ltb y.at f.at) refl
  where
    by : (b : Bool) → ltb y.at f.at ≡ b → some (if ltb (if b then f else y).at f.at then f else (if b then f else y)) ≡ some (if b then f else y)
    by true e = rw (le-ltb f.at f.at (omega arith))
    by false e = rw e

pub bests-steady : (start : ℕ) → Steady (bests start)
unfolding better
bests-steady start x place at = by (ltb at unset)
  where
    by : (b : Bool) → (if b then greater position (if b then greater position x (failing start at place) else x) (failing start at place) else (if b then greater position x (failing start at place) else x)) ≡ (if b then greater position x (failing start at place) else x)
    by true = steady-greater x (failing start at place)
    by false = refl

-- what the code keeps after a move
pub bests-told : (start : ℕ) (x : Option Failure) (t : Told) → tells_by (bests start) start x t ≡ kept_by start x t
unfolding tells_by kept_by better_if missed_of tells_all
bests-told start x (Item None) = refl
bests-told start x (Item (Some r)) = refl
bests-told start x (Refuted r) = refl

-- where all positions are small, it is the greatest
pub bests-all : (start : ℕ) (x : Option Failure) (t : Trace) → ((place at : ℕ) → In (miss place at) t → at < unset) → hears_all (bests start) x t ≡ greatest position x (failed start t)
unfolding hears_all hears failed greatest better
bests-all start x [] small = refl
bests-all start x (step ∷ t) small = bests-all start x t (λ place at i. small place at (inr i))
bests-all start x (miss place at ∷ t) small = rw (lt-ltb at unset (small place at (inl refl))) (bests-all start (greater position x (failing start at place)) t (λ q n i. small q n (inr i)))
bests-all start x (end s ∷ t) small = bests-all start x t (λ place at i. small place at (inr i))

-- The marks --------------------------------------------------------------------------

set_twice : (l : List ℕ) (a v : ℕ) → set (set l a v) a v ≡ set l a v
set_twice [] a v = refl
set_twice (x ∷ l) zero v = refl
set_twice (x ∷ l) (suc a) v = ap (λ (m : List ℕ). x ∷ m) (set_twice l a v)

pub marking-steady : (at : ℕ) → Steady (marking at)
unfolding marked_if
marking-steady at x place there = by (eqb there at)
  where
    by : (b : Bool) → (if b then set (if b then set x place 1 else x) place 1 else (if b then set x place 1 else x)) ≡ (if b then set x place 1 else x)
    by true = set_twice x place 1
    by false = refl

pub marking-told : (start at : ℕ) (x : List ℕ) (t : Told) → tells_by (marking at) start x t ≡ marked_by at x t
unfolding tells_by marked_by missed_of tells_all
marking-told start at x (Item None) = refl
marking-told start at x (Item (Some r)) = refl
marking-told start at x (Refuted r) = refl

pub marking-all : (start at : ℕ) (x : List ℕ) (t : Trace) → hears_all (marking at) x t ≡ marked (places_at at (failed start t)) x
unfolding hears_all hears failed places_at marked marked_if
marking-all start at x [] = refl
marking-all start at x (step ∷ t) = marking-all start at x t
marking-all start at x (miss place there ∷ t) = by (eqb there at) (λ y. marking-all start at y t)
  where
    by : (b : Bool) → ((y : List ℕ) → hears_all (marking at) y t ≡ marked (places_at at (failed start t)) y) → hears_all (marking at) (if b then set x place 1 else x) t ≡ marked (if b then place ∷ places_at at (failed start t) else places_at at (failed start t)) x
    by true on = on (set x place 1)
    by false on = on x
marking-all start at x (end s ∷ t) = marking-all start at x t
