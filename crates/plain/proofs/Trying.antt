-- What trying an item or a run comes to, where no budget cuts it. Assumes nothing.
use Rattle.std.specs.Prelude.{if◌then◌else◌, None, Some}
use mathlib.Core.Path.{◌≡◌, refl, ◌∙◌}
use mathlib.Core.Logic.{⊎_elim}
use mathlib.Core.List.{List}
use mathlib.Core.Bool.{Bool, true, false, ◌&&◌}
use Prim.Native.Nat.{ℕ, zero, suc, ◌+◌, ◌-◌, ◌≤◌, ◌<◌, ◌^◌}
use native.Mathlib.Omega.{arith}
use lib.ListN.{length, get_or, take}
use lib.Seq.{get_or-take}
use lib.Dec.{ltb, leb}
use borrow.Author.Tests.{lt-ltb, le-ltb, ltb-true, leb-true}
use Rattle.syntax.specs.Limits.{unset, spans_length}
use Rattle.syntax.specs.Read.{byte}
use Rattle.semantics.specs.States.{State, moved}
use Rattle.semantics.specs.Items.{goes, when, same_byte, same_at, refer, compared}
use Rattle.machine.specs.Code.{Program, in_set, same_as, folded_of, repeat_at}
use Rattle.machine.specs.Moves.{state, tested, takes, bytes_of}
use Rattle.machine.specs.Words.{Measured}
use Rattle.machine.specs.Laws.Extent.{within}
use Rattle.nodes.specs.declared.references.Compared.TheVariants.{Same, Unlike, TooMany}
use Rattle.nodes.specs.Comparing.{stands_again, ComparedAs}
use Rattle.run_ends.proofs.Bytes.{extent-low}
use Rattle.plain.specs.Misses.{RefersAs}

-- Bytes ---------------------------------------------------------------------------

pub tested-byte : (sub : List ℕ) (f : ℕ → Bool) (s : State) → tested sub (in_set f) s ≡ when (takes sub f s.at) (goes (moved (suc s.at) s))
unfolding tested takes when
tested-byte sub f s = by (ltb s.at (length sub)) (f (byte sub s.at))
  where
    by : (a b : Bool) → when a (when b (goes (moved (suc s.at) s))) ≡ when (a && b) (goes (moved (suc s.at) s))
    by true b = refl
    by false b = refl

-- a run takes no more bytes than there are
pub bytes_low : (p : Program) (sub : List ℕ) (pc at : ℕ) → bytes_of p sub (repeat_at p (pc + 2)) 0 at ≤ length sub - at
unfolding bytes_of
bytes_low p sub pc at = extent-low sub _ _ at

-- with more steps than two for each of them, none is left out
pub all-bytes : (p : Program) (sub : List ℕ) (pc at left k : ℕ) → length sub < 2 ^ 31 → left ≡ 4294967295 → Measured p sub pc at left k → k ≡ bytes_of p sub (repeat_at p (pc + 2)) 0 at
all-bytes p sub pc at left k h l y = ⊎_elim (λ e. e) (λ w. absurd (omega (arith, w.0, w.1, bytes_low p sub pc at))) y

-- References ------------------------------------------------------------------------

-- no more bytes are compared than there are
compared-low : (folded : Bool) (sub : List ℕ) (n a b : ℕ) → compared folded sub n a b ≤ length sub - b
unfolding compared
compared-low folded sub zero a b = omega arith
compared-low folded sub (suc n) a b = by (ltb b (length sub)) refl (same_byte folded (byte sub a) (byte sub b)) (compared-low folded sub n (suc a) (suc b))
  where
    by : (x : Bool) → ltb b (length sub) ≡ x → (y : Bool) → compared folded sub n (suc a) (suc b) ≤ length sub - suc b
        → (if x then suc (if y then compared folded sub n (suc a) (suc b) else 0) else 0) ≤ length sub - b
    by true e true h = omega (arith, ltb-true b (length sub) e)
    by true e false h = omega (arith, ltb-true b (length sub) e)
    by false e y h = omega arith

-- The reference at pc, tried at a position: the bytes of its span, from `from` to `to`, are compared with those there.
module _ (p sub regs : List ℕ) (pc at : ℕ) (fit : get_or p (pc + 3) 0 + 2 ≤ spans_length) (room : spans_length ≤ length regs) where
  abbrev slot : ℕ
  slot = get_or p (pc + 3) 0

  abbrev folded : Bool
  folded = folded_of (get_or p (pc + 4) 0)

  abbrev from : ℕ
  from = get_or regs slot 0

  abbrev to : ℕ
  to = get_or regs (slot + 1) 0

  span-at : (i : ℕ) → i < slot + 2 → get_or (take spans_length regs) i unset ≡ get_or regs i 0
  span-at i h = get_or-take spans_length regs i unset (omega arith) ∙ within regs i unset 0 (omega arith)

  refers : tested sub (same_as folded slot) (state at regs) ≡ refer folded sub from to (state at regs)
  unfolding tested
  refers = rw (span-at slot (omega arith), span-at (slot + 1) (omega arith))

  pub refers-unset : from ≡ unset → RefersAs p sub regs pc at None
  unfolding refer when
  refers-unset e = refers ∙ rw (le-ltb from unset (omega arith))

  module _ (n : ℕ) (long : n ≡ to - from) (given : from < unset) where
    both : (b : Bool) → stands_again folded sub n from at ≡ b → refer folded sub from to (state at regs) ≡ when b (goes (moved (at + n) (state at regs)))
    unfolding refer when
    both b e = rw (lt-ltb from unset given, ← long) (by (leb (at + n) (length sub)) (same_at folded sub n from at) b e)
      where
        by : (x y b : Bool) → (x && y) ≡ b → when x (when y (goes (moved (at + n) (state at regs)))) ≡ when b (goes (moved (at + n) (state at regs)))
        by true y b e = rw e
        by false y b e = rw (← e)

    module _ (left : ℕ) where
      pub refers-same : ComparedAs folded sub n from at left Same → RefersAs p sub regs pc at (Some (at + n))
      unfolding when
      refers-same w = refers ∙ both true w.0

      pub refers-unlike : (k : ℕ) → ComparedAs folded sub n from at left (Unlike k) → RefersAs p sub regs pc at None
      unfolding when
      refers-unlike k w = refers ∙ both false w.0

      -- the position behind it is within the subject
      pub refers-inside : ComparedAs folded sub n from at left Same → at + n ≤ length sub
      refers-inside w = by (leb (at + n) (length sub)) refl w.0
        where
          by : (x : Bool) → leb (at + n) (length sub) ≡ x → (x && same_at folded sub n from at) ≡ true → at + n ≤ length sub
          by true q e = leb-true (at + n) (length sub) q
          by false q e = let z : ◌≡◌ {A = ℕ} 0 1 = cc in absurd (omega arith)

      pub never-long : length sub < 2 ^ 31 → left ≡ 4294967295 → ComparedAs folded sub n from at left TooMany → ⊥
      never-long h l w = omega (arith, w, compared-low folded sub n from at)
