-- The two accounts that an explanation keeps over the walk from a start: the first of its greatest failures, and the marks of those at a position.
use Rattle.std.specs.Prelude.{◌≡◌, List, [], ◌∷◌, Bool, None, Some, ◌&&◌, ℕ, zero, suc, ◌≤◌, eqb, set, if◌then◌else◌}
use Rattle.std.proofs.Math.Path.{refl}
use Rattle.std.proofs.Common.{ap, arith}
use Rattle.std.proofs.Math.Bool.{true, false}
use Rattle.std.proofs.Math.Option.{Option, none, some}
use borrow.Author.Tests.{lt-ltb, le-ltb, ltb-true, ltb-false}
use Rattle.std.proofs.Math.Dec.{ltb}
use Rattle.syntax.specs.Limits.{unset}
use Rattle.semantics.specs.Explanations.{Failure, greater, position}
use Rattle.machine.specs.Laws.Run.{Account}
use Rattle.plain.specs.declared.Told.{Told}
use Rattle.plain.specs.declared.Told.TheVariants.{Item, Refuted}
use Rattle.greatest.specs.Leading.{failing, better, would_lead, note_of, settled}

-- The greatest --------------------------------------------------------------------

pub settles-now : (start : ℕ) (x : Option Failure) (place n : ℕ) → settled start (note_of x n) place x ≡ better start x place n
unfolding settled note_of better
settles-now start x place n = by (ltb n unset) x
  where
    far : (y : Failure) (b : Bool) → ltb y.at n ≡ b → settled start (if b then suc n else 0) place (some y) ≡ some (if b then failing start n place else y)
    far y true e = let l = ltb-true y.at n e in rw (le-ltb n y.at (omega arith))
    far y false e = refl

    by : (b : Bool) (x : Option Failure) → settled start (if b && would_lead x n then suc n else 0) place x ≡ (if b then greater position x (failing start n place) else x)
    by true none = unfold would_lead greater in refl
    by true (some y) = unfold would_lead greater in far y (ltb y.at n) refl
    by false x = refl

module _ (start place n : ℕ) (q at : ℕ) (l : n ≤ at) where
  abbrev f : Failure
  f = failing start n place

  abbrev g : Failure
  g = failing start at q

  later-one : (y : Option Failure) → greater position (settled start (suc n) place y) g ≡ settled start (suc n) place (greater position y g)
  unfolding settled greater
  later-one none = refl
  later-one (some z) = by (ltb n z.at) (ltb z.at at) refl refl
    where
      by : (u v : Bool) → ltb n z.at ≡ u → ltb z.at at ≡ v
          → some (if ltb (if u then z else f).at at then g else (if u then z else f)) ≡ some (if ltb n (if v then g else z).at then (if v then g else z) else f)
      by true true e₁ e₂ = let a = ltb-true n z.at e₁ in let b = ltb-true z.at at e₂ in rw (e₂, lt-ltb n at (omega arith))
      by true false e₁ e₂ = rw (e₂, e₁)
      by false true e₁ e₂ = refl
      by false false e₁ e₂ = let a = ltb-false n z.at e₁ in let b = ltb-false z.at at e₂ in rw (e₁, le-ltb n at (omega arith))

pub settles-later : (start : ℕ) (x : Option Failure) (place n : ℕ) (y : Option Failure) (q at : ℕ) → n ≤ at → better start (settled start (note_of x n) place y) q at ≡ settled start (note_of x n) place (better start y q at)
unfolding note_of better
settles-later start x place n y q at l = by (ltb n unset && would_lead x n) (ltb at unset)
  where
    by : (b c : Bool) → (if c then greater position (settled start (if b then suc n else 0) place y) (failing start at q) else settled start (if b then suc n else 0) place y)
        ≡ settled start (if b then suc n else 0) place (if c then greater position y (failing start at q) else y)
    by b false = refl
    by true true = later-one start place n q at l y
    by false true = unfold settled in refl

abbrev pub bests : (start : ℕ) → Account
bests start = record { X = Option Failure; told = better start; note = note_of; settle = settled start; settles = settles-now start; later = settles-later start }

-- The marks -----------------------------------------------------------------------

unfoldable pub marked_if : (at : ℕ) → List ℕ → (place there : ℕ) → List ℕ
marked_if at bytes place there = if eqb there at then set bytes place 1 else bytes

-- by what a move told
unfoldable pub marked_by : (at : ℕ) → List ℕ → Told → List ℕ
marked_by at bytes (Item None) = bytes
marked_by at bytes (Item (Some r)) = marked_if at bytes r.place r.at
marked_by at bytes (Refuted r) = marked_if at bytes r.place r.note

-- in whatever order they are set
set_both : (l : List ℕ) (a b v : ℕ) → set (set l a v) b v ≡ set (set l b v) a v
set_both [] a b v = refl
set_both (x ∷ l) zero zero v = refl
set_both (x ∷ l) zero (suc b) v = refl
set_both (x ∷ l) (suc a) zero v = refl
set_both (x ∷ l) (suc a) (suc b) v = ap (λ (m : List ℕ). x ∷ m) (set_both l a b v)

pub marked-both : (at : ℕ) (bytes : List ℕ) (p n q m : ℕ) → marked_if at (marked_if at bytes p n) q m ≡ marked_if at (marked_if at bytes q m) p n
unfolding marked_if
marked-both at bytes p n q m = by (eqb n at) (eqb m at)
  where
    by : (a b : Bool) → (if b then set (if a then set bytes p 1 else bytes) q 1 else (if a then set bytes p 1 else bytes)) ≡ (if a then set (if b then set bytes q 1 else bytes) p 1 else (if b then set bytes q 1 else bytes))
    by true true = set_both bytes p q 1
    by true false = refl
    by false true = refl
    by false false = refl

-- a `(?!` that fails is marked at its inner end, by the position that it was entered at
abbrev pub marking : (at : ℕ) → Account
marking at = record {
  X = List ℕ;
  told = marked_if at;
  note = λ bytes n. n;
  settle = λ n place bytes. marked_if at bytes place n;
  settles = λ bytes place n. refl;
  later = λ bytes place n other q there l. marked-both at other place n q there;
}
