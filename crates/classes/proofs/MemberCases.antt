-- The members of a class: which case of an element, a range or a member holds. Assumes nothing.
use mathlib.Core.Path.{◌≡◌, refl, sym, ◌∙◌}
use mathlib.Core.List.{List}
use mathlib.Core.Bool.{Bool, true, false, not}
use mathlib.Core.Option.{none}
use Prim.Native.Nat.{ℕ, ◌+◌, ◌≤◌, ◌<◌}
use lib.Dec.{eqb}
use borrow.Author.Tests.{le-leb, lt-leb, ne_eqb}
use Rattle.syntax.specs.declared.Reason.TheVariants.{UnclosedClass, BadRange, MixedRange}
use Rattle.syntax.specs.Read.{byte, is_end, sound, refused}
use Rattle.syntax.specs.Sets.{single, range}
use Rattle.syntax.specs.Escapes.{class_escape}
use Rattle.syntax.specs.Classes.{posix, element, range_end, alike, range_of, makes_range, member}
use Rattle.syntax.specs.declared.Parsed.{Parsed}
use Rattle.syntax.specs.declared.Refusal.{Refusal}
use Rattle.escapes.specs.declared.Member.{Member as Told}
use Rattle.escapes.specs.declared.Member.TheVariants.{Single, Range, Set, NotSet}
use Rattle.escapes.specs.Says.{member_of}

-- what is no single byte is no end of a range
pub endless : (m : Told) → ((b : ℕ) → m ≡ Single b → ⊥) → range_end (member_of m) ≡ none
unfolding range_end
endless (Single b) n = absurd (n b refl)
endless (Range a b) n = refl
endless (Set s) n = refl
endless (NotSet s) n = refl

-- Elements ---------------------------------------------------------------------------

module _ (s : List ℕ) (from at b : ℕ) (p : b ≡ byte s at) where
  pub element-end : b ≡ 256 → refused from UnclosedClass ≡ element s from at
  unfolding element is_end
  element-end e = rw (← p, e)

  pub element-escape : b ≡ 92 → class_escape s at ≡ element s from at
  unfolding element is_end
  element-escape e = rw (← p, e)

  pub element-bracket : b ≡ 91 → posix s at ≡ element s from at
  unfolding element is_end
  element-bracket e = rw (← p, e)

  pub element-byte : (b ≡ 256 → ⊥) → (b ≡ 92 → ⊥) → (b ≡ 91 → ⊥) → sound (single b) (at + 1) ≡ element s from at
  unfolding element is_end
  element-byte n1 n2 n3 = rw (← p) (simp (ne_eqb b 256 n1, ne_eqb b 92 n2, ne_eqb b 91 n3))

-- Ranges -----------------------------------------------------------------------------

module _ (s : List ℕ) (at b : ℕ) (p : b ≡ byte s at) where
  pub no-range : (b ≡ 45 → ⊥) → false ≡ makes_range s at
  unfolding makes_range
  no-range n = rw (← p) (simp (ne_eqb b 45 n))

  pub maybe-range : b ≡ 45 → (d : ℕ) → d ≡ byte s (at + 1) → not (eqb d 93) ≡ makes_range s at
  unfolding makes_range
  maybe-range e d q = rw (← p, e, ← q)

module _ (strict : Bool) (at : ℕ) (low high : Told) (next : ℕ) where
  pub range-low-set : ((b : ℕ) → low ≡ Single b → ⊥) → refused at BadRange ≡ range_of strict at (range_end (member_of low)) (range_end (member_of high)) next
  unfolding range_of
  range-low-set n = rw (endless low n)

  module _ (x : ℕ) (e : low ≡ Single x) where
    pub range-high-set : ((b : ℕ) → high ≡ Single b → ⊥) → refused at BadRange ≡ range_of strict at (range_end (member_of low)) (range_end (member_of high)) next
    unfolding range_of range_end
    range-high-set n = rw (e, endless high n)

    module _ (y : ℕ) (k : high ≡ Single y) where
      pub range-over : y < x → refused at BadRange ≡ range_of strict at (range_end (member_of low)) (range_end (member_of high)) next
      unfolding range_of range_end
      range-over o = rw (e, k) (simp (lt-leb x y o))

      module _ (o : x ≤ y) where
        pub range-mixed : strict ≡ true → false ≡ alike x y → refused at MixedRange ≡ range_of strict at (range_end (member_of low)) (range_end (member_of high)) next
        unfolding range_of range_end
        range-mixed t a = rw (e, k, t, ← a) (simp (le-leb x y o))

        pub range-alike : strict ≡ true → true ≡ alike x y → sound (range x y) next ≡ range_of strict at (range_end (member_of low)) (range_end (member_of high)) next
        unfolding range_of range_end
        range-alike t a = rw (e, k, t, ← a) (simp (le-leb x y o))

        pub range-loose : strict ≡ false → sound (range x y) next ≡ range_of strict at (range_end (member_of low)) (range_end (member_of high)) next
        unfolding range_of range_end
        range-loose t = rw (e, k, t) (simp (le-leb x y o))

-- Members ----------------------------------------------------------------------------

module _ (strict : Bool) (s : List ℕ) (from at : ℕ) where
  pub member-bad : (f : Refusal) → refused f.place f.reason ≡ element s from at → refused f.place f.reason ≡ member s strict from at
  unfolding member
  member-bad f e = rw (← e)

  module _ (low : Parsed Told) (e : sound (member_of low.value) low.next ≡ element s from at) (r : Bool) (t : r ≡ makes_range s low.next) where
    pub member-alone : r ≡ false → sound (member_of low.value) low.next ≡ member s strict from at
    unfolding member
    member-alone f = let m : makes_range s low.next ≡ false = sym t ∙ f in rw (← e, m)

    module _ (y : r ≡ true) where
      pub member-half : (f : Refusal) → refused f.place f.reason ≡ element s from (low.next + 1) → refused f.place f.reason ≡ member s strict from at
      unfolding member
      member-half f k = let m : makes_range s low.next ≡ true = sym t ∙ y in rw (← e, m, ← k)

      pub member-range : (high : Parsed Told) → sound (member_of high.value) high.next ≡ element s from (low.next + 1) → range_of strict at (range_end (member_of low.value)) (range_end (member_of high.value)) high.next ≡ member s strict from at
      unfolding member
      member-range high k = let m : makes_range s low.next ≡ true = sym t ∙ y in rw (← e, m, ← k)
