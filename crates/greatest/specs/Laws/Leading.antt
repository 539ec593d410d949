-- What the code keeps of the walk from one start, return by return.
use Rattle.std.specs.Prelude as option
use Rattle.std.specs.Prelude.{◌≡◌, Bool, true, false, None, Some, ℕ, suc, ◌+◌, ◌≤◌, ◌<◌}
use Rattle.std.proofs.Math.Path.{refl}
use Rattle.std.proofs.Math.Option.{Option, none}
use Rattle.std.proofs.Common.{arith, add-one}
use borrow.Author.Tests.{lt-ltb, le-ltb}
use Rattle.syntax.specs.Limits.{unset}
use Rattle.semantics.specs.Explanations.{Failure, greater}
use Rattle.plain.specs.declared.Miss.{Miss}
use Rattle.plain.specs.declared.Refuted.{Refuted}
use Rattle.plain.specs.declared.Told.TheVariants.{Item, Refuted as Late}
use Rattle.greatest.specs.Leading.{better, would_lead, note_of, settled, kept_of, better_if, kept_by}

pub kept-none : (start : ℕ) → kept_of start None ≡ none
unfolding kept_of
kept-none start = refl

module _ (start : ℕ) (k : option.Option Miss) where
  -- The note ------------------------------------------------------------------------

  module _ (at : ℕ) where
    pub note-nowhere : at ≡ 4294967295 → 0 ≡ note_of (kept_of start k) at
    unfolding note_of unset
    note-nowhere e = rw (le-ltb at 4294967295 (omega arith))

    module _ (somewhere : at < 4294967295) where
      pub note-greater : would_lead (kept_of start k) at ≡ true → at + 1 ≡ note_of (kept_of start k) at
      unfolding note_of unset
      note-greater e = rw (lt-ltb at 4294967295 somewhere, e) (add-one at)

      pub note-not : would_lead (kept_of start k) at ≡ false → 0 ≡ note_of (kept_of start k) at
      unfolding note_of unset
      note-not e = rw (lt-ltb at 4294967295 somewhere, e)

pub note-first : (start at : ℕ) → at < 4294967295 → at + 1 ≡ note_of (kept_of start None) at
unfolding would_lead kept_of
note-first start at somewhere = note-greater start None at somewhere refl

-- One more failure ------------------------------------------------------------------

module _ (start place at : ℕ) where
  pub lead-nowhere : (k : option.Option Miss) → at ≡ 4294967295 → kept_of start k ≡ better start (kept_of start k) place at
  unfolding better unset
  lead-nowhere k e = rw (le-ltb at 4294967295 (omega arith))

  module _ (somewhere : at < 4294967295) where
    pub lead-greater : (k : option.Option Miss) → would_lead (kept_of start k) at ≡ true → kept_of start (Some (record { at = at; place = place })) ≡ better start (kept_of start k) place at
    unfolding better kept_of greater would_lead unset
    lead-greater None e = rw (lt-ltb at 4294967295 somewhere)
    lead-greater (Some y) e = rw (lt-ltb at 4294967295 somewhere, e)

    pub lead-first : kept_of start (Some (record { at = at; place = place })) ≡ better start (kept_of start None) place at
    unfolding would_lead kept_of
    lead-first = lead-greater None refl

    pub lead-not : (k : option.Option Miss) → would_lead (kept_of start k) at ≡ false → kept_of start k ≡ better start (kept_of start k) place at
    unfolding better kept_of greater would_lead unset
    lead-not None e = let z : ◌≡◌ {A = ℕ} 0 1 = cc in absurd (omega arith)
    lead-not (Some y) e = rw (lt-ltb at 4294967295 somewhere, e)

-- A move --------------------------------------------------------------------------

module _ (start : ℕ) (k : option.Option Miss) where
  pub lead-nothing : kept_of start k ≡ better_if start (kept_of start k) None
  unfolding better_if
  lead-nothing = refl

  pub lead-one : (r : Miss) → better start (kept_of start k) r.place r.at ≡ better_if start (kept_of start k) (Some r)
  unfolding better_if
  lead-one r = refl

-- A `(?!` that failed ---------------------------------------------------------------

module _ (start note place : ℕ) where
  pub settle-none : (x : Option Failure) → note ≡ 0 → x ≡ settled start note place x
  unfolding settled
  settle-none x e = rw e

  module _ (at : ℕ) (is : note ≡ suc at) where
    pub settle-first : kept_of start (Some (record { at = at; place = place })) ≡ settled start note place (kept_of start None)
    unfolding settled kept_of
    settle-first = rw is

    pub settle-later : (y : Miss) → at < y.at → kept_of start (Some y) ≡ settled start note place (kept_of start (Some y))
    unfolding settled kept_of
    settle-later y h = rw (is, lt-ltb at y.at h)

    pub settle-here : (y : Miss) → y.at ≤ at → kept_of start (Some (record { at = at; place = place })) ≡ settled start note place (kept_of start (Some y))
    unfolding settled kept_of
    settle-here y h = rw (is, le-ltb at y.at h)

-- At once, or by its note -------------------------------------------------------------

module _ (start : ℕ) (x : Option Failure) where
  pub kept-late : (r : Refuted) → kept_by start x (Late r) ≡ settled start r.note r.place x
  unfolding kept_by
  kept-late r = refl

  pub kept-now : (r : option.Option Miss) → kept_by start x (Item r) ≡ better_if start x r
  unfolding kept_by
  kept-now r = refl
