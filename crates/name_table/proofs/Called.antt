-- The names of a table, from the last group down: those that are left decide as all do.
use mathlib.Core.Path.{◌≡◌, sym, ap, subst, ◌∙◌}
use mathlib.Core.Bool.{Bool, true, false}
use mathlib.Core.List.{List}
use Prim.Native.Nat.{ℕ, suc, ◌+◌, ◌-◌, ◌*◌, ◌≤◌}
use native.Mathlib.Omega.{arith}
use lib.Dec.{eqb}
use lib.ListN.{get_or, take, drop}
use lib.Pointwise.{pointwise}
use lib.Seq.{slice}
use Rattle.std.proofs.lemmas.List.{drop-take}
use Rattle.syntax.specs.Names.{Name, group_called}
use Rattle.syntax.specs.Sets.{same_bytes}
use Rattle.syntax.proofs.Same.{same-pointwise}
use Rattle.name_table.specs.Table.{names_in, length-names}

-- Two names -----------------------------------------------------------------------------

-- what the comparison of a part of the rule with other bytes answered, if the part is as long as the name
pub compared : (s x y : List ℕ) (from len part : ℕ) (b : Bool) → y ≡ x → b ≡ pointwise eqb (take (from + part - from) (drop from s)) y → part ≡ len → same_bytes (slice from (from + len) s) x ≡ b
compared s x y from len part b is e l =
    let k : from + part - from ≡ len = omega (arith, l) in
    sym (e ∙ rw (is, k) (ap (λ (bytes : List ℕ). pointwise eqb bytes x) (sym (drop-take from len s))) ∙ same-pointwise (slice from (from + len) s) x)

-- The names of a table -----------------------------------------------------------------

module _ (s table : List ℕ) (n : Name) where
  -- the name of the group behind g others
  abbrev name_behind : ℕ → Name
  name_behind g = slice (get_or table (2 * g) 0) (get_or table (2 * g) 0 + get_or table (2 * g + 1) 0) s

  first-called : (g : ℕ) → same_bytes n (name_behind g) ≡ true → group_called n (names_in s table (suc g)) ≡ suc g
  unfolding names_in group_called
  first-called g e = rw e (ap suc (length-names s table g))

  later-called : (g : ℕ) → same_bytes n (name_behind g) ≡ false → group_called n (names_in s table (suc g)) ≡ group_called n (names_in s table g)
  unfolding names_in group_called
  later-called g e = rw e

  pub called-here : (g : ℕ) → 1 ≤ g → same_bytes n (name_behind (g - 1)) ≡ true → group_called n (names_in s table g) ≡ g
  called-here g l e = let k : suc (g - 1) ≡ g = omega arith in subst (λ (m : ℕ). group_called n (names_in s table m) ≡ m) k (first-called (g - 1) e)

  pub called-below : (g : ℕ) → 1 ≤ g → same_bytes n (name_behind (g - 1)) ≡ false → group_called n (names_in s table g) ≡ group_called n (names_in s table (g - 1))
  called-below g l e = let k : suc (g - 1) ≡ g = omega arith in subst (λ (m : ℕ). group_called n (names_in s table m) ≡ group_called n (names_in s table (g - 1))) k (later-called (g - 1) e)

  pub called-none : (g : ℕ) → g ≡ 0 → group_called n (names_in s table g) ≡ 0
  unfolding names_in group_called
  called-none g e = rw e
