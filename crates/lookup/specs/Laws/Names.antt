-- The search through a name index, one entry after another.
use Rattle.std.specs.Prelude.{◌≡◌, List, ◌∷◌, ◌++◌, Bool, Some, None, length, get_or, take, drop, if◌then◌else◌}
use Rattle.std.proofs.Math.Path.{refl, sym, ap}
use Rattle.std.proofs.Common.{◌∙◌, eq-eqb, ne_eqb, le-leb, length-append}
use Rattle.std.proofs.Math.Logic.{inl, inr}
use Rattle.std.proofs.Math.Bool.{true, false}
use Prim.Native.Nat.{ℕ, zero, suc, ◌+◌, ◌-◌, ◌*◌, ◌≤◌, ◌<◌}
use native.Mathlib.Omega.{arith}
use Rattle.std.proofs.Math.ListN.{length-take, length-drop}
use Rattle.std.proofs.Math.Seq.{take-append_seam}
use Rattle.syntax.specs.Limits.{group_limit, name_limit, name_entry}
use Rattle.syntax.specs.Sets.{same_bytes}
use Rattle.semantics.proofs.Laws.Cases.{clash, bool, same_or}
use Rattle.index.specs.Laws.Known.{same_self, same-equal}
use Rattle.lookup.specs.Names.{entry_of, is_whole, name_length, name_in, is_of, first_named, group_named, group_at}

-- a comparison that says of two byte strings whether they are equal
pub same-told : (told : Bool) (a b : List ℕ) → (told ≡ true → a ≡ b) → (a ≡ b → told ≡ true) → told ≡ same_bytes a b
same-told true a b f g = rw (f refl) (sym (same_self b))
same-told false a b f g = elim (bool (same_bytes a b)) [ inl e ↦ absurd (clash (cc (g (same-equal a b e)))) | inr e ↦ sym e ]

-- so many bytes behind the first are the name, where that is what the first says
pub name-told : (name entry : List ℕ) (count : ℕ) (told : Bool) → count ≡ get_or entry 0 0 → told ≡ same_bytes (take count (drop 1 entry)) name → told ≡ same_bytes (name_in entry) name
unfolding name_in name_length
name-told name entry count told e h = h ∙ ap (λ (k : ℕ). same_bytes (take k (drop 1 entry)) name) e

-- so many entries are left, of which one is looked at
pub one_of : (n passed : ℕ) → passed < n → n - passed ≡ suc (n - suc passed)
one_of n passed h = omega arith

module _ (name names : List ℕ) where
  pub named_here : (n passed : ℕ) → passed < n → is_of name (entry_of names (suc passed)) ≡ true → first_named (n - passed) name names (suc passed) ≡ suc passed
  unfolding first_named
  named_here n passed h e = rw (one_of n passed h, e)

  pub named-on : (n passed : ℕ) → passed < n → is_of name (entry_of names (suc passed)) ≡ false → first_named (n - passed) name names (suc passed) ≡ first_named (n - suc passed) name names (suc (suc passed))
  unfolding first_named
  named-on n passed h e = rw (one_of n passed h, e)

  pub named-all : (n passed : ℕ) → n ≤ passed → first_named (n - passed) name names (suc passed) ≡ 0
  unfolding first_named
  named-all n passed h = let e : n - passed ≡ 0 = omega arith in rw e

  -- what is known of the entry of a group, where it stands
  pub entry-told : (passed : ℕ) (told : Bool) → told ≡ is_of name (take (passed * name_entry + name_entry - passed * name_entry) (drop (passed * name_entry) names)) → is_of name (entry_of names (suc passed)) ≡ told
  unfolding entry_of name_entry name_limit
  entry-told passed told e =
      let size : passed * name_entry + name_entry - passed * name_entry ≡ name_entry = omega arith in
      let from : passed * name_entry ≡ name_entry * (suc passed - 1) = omega arith in
      ap (λ (k : ℕ). is_of name (take name_entry (drop k names))) (sym from) ∙ ap (λ (k : ℕ). is_of name (take k (drop (passed * name_entry) names))) (sym size) ∙ sym e

  -- behind the end of the index no entry is whole
  cut_short : (group : ℕ) → 1 ≤ group → length names < name_entry * group → is_of name (entry_of names group) ≡ false
  unfolding is_of is_whole entry_of name_entry name_limit
  cut_short group l h = rw (ne_eqb (length (entry_of names group)) name_entry (λ e. omega (arith, length-take name_entry (drop (name_entry * (group - 1)) names), length-drop (name_entry * (group - 1)) names)))

  cut_later : (group : ℕ) → length names < name_entry * group → length names < name_entry * suc group
  unfolding name_entry name_limit
  cut_later group h = omega arith

  pub named_none : (many group : ℕ) → 1 ≤ group → length names < name_entry * group → first_named many name names group ≡ 0
  unfolding first_named
  named_none zero group l h = refl
  named_none (suc many) group l h = rw (cut_short group l h) (named_none many (suc group) (omega arith) (cut_later group h))

  named-below : (many group : ℕ) → 1 ≤ group → first_named many name names group < group + many
  unfolding first_named
  named-below zero group l = omega arith
  named-below (suc many) group l = of (is_of name (entry_of names group)) (named-below many (suc group) (omega arith))
    where
      of : (t : Bool) → first_named many name names (suc group) < suc group + many → (if t then group else first_named many name names (suc group)) < group + suc many
      of true h = omega arith
      of false h = omega arith

  -- a group that is found is one that a row has
  pub named-within : group_named name names ≤ group_limit
  unfolding group_named
  named-within = omega (arith, named-below group_limit 1 (omega arith))

-- As the code answers it ---------------------------------------------------------

pub at_none : {n : ℕ} → 0 ≡ n → None ≡ group_at n
unfolding group_at
at_none e = rw (sym e) refl

pub at_some : {passed n : ℕ} → suc passed ≡ n → Some (suc passed) ≡ group_at n
unfolding group_at
at_some e = rw (sym e) refl

pub is_none : (n : ℕ) → None ≡ group_at n → n ≡ 0
unfolding group_at
is_none zero e = refl
is_none (suc n) e = absurd (clash (cc e))

pub is_some : (n group : ℕ) → Some group ≡ group_at n → (group ≡ n) × (group ≡ 0 → ⊥)
unfolding group_at
is_some zero group e = absurd (clash (cc e))
is_some (suc n) group e = let same : group ≡ suc n = cc e in (same, λ z. omega (arith, same, z))

-- What is found ----------------------------------------------------------------

module _ (name names : List ℕ) where
  first-among : (many from group : ℕ) → from ≤ group → group < from + many → is_of name (entry_of names group) ≡ true → ((g : ℕ) → from ≤ g → g < group → is_of name (entry_of names g) ≡ false) → first_named many name names from ≡ group
  unfolding first_named
  first-among zero from group l h e others = absurd (omega arith)
  first-among (suc many) from group l h e others =
      elim (same_or from group) [
        | inl s ↦ rw (s, e)
        | inr n ↦ rw (others from (omega arith) (omega arith)) (first-among many (suc from) group (omega arith) (omega arith) e (λ g k m. others g (omega arith) m))
      ]

  -- the first entry that has the name is the one that counts
  pub first_found : (group : ℕ) → 1 ≤ group → group ≤ group_limit → is_of name (entry_of names group) ≡ true → ((g : ℕ) → 1 ≤ g → g < group → is_of name (entry_of names g) ≡ false) → group_named name names ≡ group
  unfolding group_named
  first_found group l h e others = first-among group_limit 1 group l (omega arith) e others

-- an entry that was written for a name, with any padding, is of that name and of no other
pub entry-is_of : (name written padding : List ℕ) → 1 ≤ length written → length written + length padding ≡ name_limit → is_of name (length written ∷ (written ++ padding)) ≡ same_bytes written name
unfolding is_of is_whole name_length name_in name_entry
entry-is_of name written padding l h =
    let size : suc (length (written ++ padding)) ≡ name_entry = ap suc (length-append written padding ∙ h) in
    rw (eq-eqb (suc (length (written ++ padding))) name_entry size, le-leb 1 (length written) l, le-leb (length written) name_limit (omega arith), take-append_seam written padding)

-- and one without a name is of none
pub no_name : (name padding : List ℕ) → is_of name (0 ∷ padding) ≡ false
unfolding is_of name_length
no_name name padding = elim (bool (is_whole (0 ∷ padding))) [ inl e ↦ rw e | inr e ↦ rw e ]
