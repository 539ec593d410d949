-- An index that a call filled: the entry of each group is that of its name, so that a name is found at the group that has it. Names are not used
-- twice, so that it is found there and nowhere before.
use Rattle.std.specs.Prelude.{◌≡◌, List, [], ◌∷◌, ◌++◌, Bool, true, false, ◌||◌, eqb, length, take, drop, replicate, if◌then◌else◌}
use Rattle.std.proofs.Math.Path.{refl, ap}
use Rattle.std.proofs.Common.{sym, ◌∙◌, append_assoc, inl, inr, mul-suc, mul-zero, eq-eqb, ne_eqb, take_at}
use Prim.Native.Nat.{ℕ, zero, suc, ◌+◌, ◌-◌, ◌*◌, ◌≤◌, ◌<◌}
use native.Mathlib.Omega.{arith}
use Rattle.std.proofs.lemmas.List.{length-replicate}
use Rattle.std.proofs.Math.Seq.{drop-append-add}
use Rattle.syntax.specs.Limits.{group_limit, name_limit, name_entry}
use Rattle.syntax.specs.Sets.{same_bytes}
use Rattle.syntax.specs.Names.{Name, Names, is_used}
use Rattle.syntax.specs.Laws.Names.{Short, Apart}
use Rattle.semantics.specs.NameIndex.{name_of, entry, entries, name_index}
use Rattle.semantics.specs.Calls.{over}
use Rattle.semantics.proofs.Laws.Areas.{entry-long}
use Rattle.semantics.proofs.Laws.Cases.{same_or}
use Rattle.index.specs.Laws.Known.{same_self}
use Rattle.lookup.specs.Names.{entry_of, is_of, first_named, group_named}
use Rattle.lookup.specs.Laws.Names.{first_found, entry-is_of, no_name}

-- An entry ---------------------------------------------------------------------

take-zeros : (n p : ℕ) → n ≤ p → take n (replicate {A = ℕ} p 0) ≡ replicate n 0
take-zeros zero p h = refl
take-zeros (suc n) zero h = absurd (omega arith)
take-zeros (suc n) (suc p) h = ap (λ (x : List ℕ). 0 ∷ x) (take-zeros n p (omega arith))

take-padded : (m : List ℕ) (n p : ℕ) → length m ≤ n → n ≤ p → take n (m ++ replicate p 0) ≡ m ++ replicate (n - length m) 0
take-padded [] n p h l = let e : n - 0 ≡ n = omega arith in rw e (take-zeros n p l)
take-padded (b ∷ m) zero p h l = absurd (omega arith)
take-padded (b ∷ m) (suc n) p h l = let e : suc n - suc (length m) ≡ n - length m = omega arith in rw e (ap (λ (x : List ℕ). b ∷ x) (take-padded m n p (omega arith) (omega arith)))

entry-as : (m : Name) → length m ≤ name_limit → entry m ≡ length m ∷ (m ++ replicate (name_limit - length m) 0)
unfolding entry name_entry
entry-as m h = ap (λ (x : List ℕ). length m ∷ x) (take-padded m name_limit (suc name_limit) h (omega arith))

-- of a name, and of none
entry-of : (n m : Name) → length m ≤ name_limit → 1 ≤ length m → is_of n (entry m) ≡ same_bytes m n
entry-of n m h l = rw (entry-as m h) (entry-is_of n m (replicate (name_limit - length m) 0) l (omega (arith, length-replicate {A = ℕ} (name_limit - length m) 0)))

entry-empty : (n : Name) → is_of n (entry []) ≡ false
entry-empty n = rw (entry-as [] (omega arith)) (no_name n _)

-- Its place ------------------------------------------------------------------------

entry_at : (many k : ℕ) (ns : Names) (group : ℕ) (rest : List ℕ) → k < many → take name_entry (drop (name_entry * k) (entries many ns group ++ rest)) ≡ entry (name_of ns (group + k))
unfolding entries
entry_at zero k ns group rest h = absurd (omega arith)
entry_at (suc many) zero ns group rest h =
    let e : group + 0 ≡ group = omega arith in
    rw (mul-zero name_entry, append_assoc (entry (name_of ns group)) (entries many ns (suc group)) rest, e)
    (take_at (entry (name_of ns group)) (entries many ns (suc group) ++ rest) name_entry (entry-long (name_of ns group)))
entry_at (suc many) (suc k) ns group rest h =
    let first = entry (name_of ns group) in
    let e : name_entry * suc k ≡ length first + name_entry * k = mul-suc name_entry k ∙ omega (arith, entry-long (name_of ns group)) in
    let f : group + suc k ≡ suc group + k = omega arith in
    rw (e, append_assoc first (entries many ns (suc group)) rest, drop-append-add first (entries many ns (suc group) ++ rest) (name_entry * k), f)
    (entry_at many k ns (suc group) rest (omega arith))

module _ (ns : Names) (before : List ℕ) where
  abbrev index : List ℕ
  index = over (name_index ns) before

  pub entry-filled : (group : ℕ) → 1 ≤ group → group ≤ group_limit → entry_of index group ≡ entry (name_of ns group)
  unfolding entry_of over name_index
  entry-filled group l h =
      let e : 1 + (group - 1) ≡ group = omega arith in
      entry_at group_limit (group - 1) ns 1 (drop (length (name_index ns)) before) (omega arith) ∙ ap (λ (g : ℕ). entry (name_of ns g)) e

-- Names --------------------------------------------------------------------------

eqb-sym : (a b : ℕ) → eqb a b ≡ eqb b a
eqb-sym a b = elim (same_or a b) [ inl e ↦ rw e | inr n ↦ rw (ne_eqb a b (λ e. omega arith), ne_eqb b a (λ e. omega arith)) ]

same-sym : (a b : List ℕ) → same_bytes a b ≡ same_bytes b a
unfolding same_bytes
same-sym [] [] = refl
same-sym [] (c ∷ cs) = refl
same-sym (b ∷ bs) [] = refl
same-sym (b ∷ bs) (c ∷ cs) = rw (eqb-sym b c, same-sym bs cs)

or_left : (a b : Bool) → (a || b) ≡ false → a ≡ false
or_left true b e = e
or_left false b e = refl

or_right : (a b : Bool) → (a || b) ≡ false → b ≡ false
or_right true b e = absurd (let z : ◌≡◌ {A = ℕ} 0 1 = cc in omega arith)
or_right false b e = e

same_none : (n : Name) → 1 ≤ length n → same_bytes n [] ≡ false
unfolding same_bytes
same_none [] h = absurd (omega arith)
same_none (b ∷ n) h = refl

-- a name that is not used is no group's
unused : (ns : Names) (n : Name) → 1 ≤ length n → is_used n ns ≡ false → (group : ℕ) → same_bytes (name_of ns group) n ≡ false
unfolding is_used name_of
unused [] n l e group = same-sym [] n ∙ same_none n l
unused (m ∷ ms) n l e group = by (eqb group (suc (length ms))) (unused ms n l (or_right (same_bytes n m) (is_used n ms) e) group)
  where
    by : (b : Bool) → same_bytes (name_of ms group) n ≡ false → same_bytes (if b then m else name_of ms group) n ≡ false
    by true h = same-sym m n ∙ or_left (same_bytes n m) (is_used n ms) e
    by false h = h

-- the groups before one that has a name have other names
before-other : (ns : Names) → Apart ns → (group g : ℕ) → g < group → group ≤ length ns → 1 ≤ length (name_of ns group) → same_bytes (name_of ns g) (name_of ns group) ≡ false
unfolding name_of
before-other [] a group g h l k = absurd (omega arith)
before-other (m ∷ ms) a group g h l k = elim (same_or group (suc (length ms))) [
  | inl e ↦ (let x = eq-eqb group (suc (length ms)) e in
      let y = ne_eqb g (suc (length ms)) (omega arith) in
      let z : 1 ≤ length m = rw x at k in rw (x, y) (unused ms m z (a.0 z) g))
  | inr n ↦ (let x = ne_eqb group (suc (length ms)) n in
      let y = ne_eqb g (suc (length ms)) (omega arith) in
      let z : 1 ≤ length (name_of ms group) = rw x at k in rw (x, y) (before-other ms a.1 group g h (omega arith) z))
]

short-of : (ns : Names) → Short ns → (group : ℕ) → length (name_of ns group) ≤ name_limit
unfolding name_of
short-of [] h group = omega arith
short-of (m ∷ ms) h group = by (eqb group (suc (length ms))) (short-of ms h.1 group)
  where
    by : (b : Bool) → length (name_of ms group) ≤ name_limit → length (if b then m else name_of ms group) ≤ name_limit
    by true l = h.0
    by false l = l

-- What is found ----------------------------------------------------------------------

module _ (ns : Names) (before : List ℕ) (short : Short ns) (few : length ns ≤ group_limit) where
  of_entry : (n : Name) (group : ℕ) → 1 ≤ group → group ≤ group_limit → 1 ≤ length n → is_of n (entry_of (over (name_index ns) before) group) ≡ same_bytes (name_of ns group) n
  of_entry n group l h k = rw (entry-filled ns before group l h) (by (name_of ns group) refl)
    where
      by : (m : Name) → name_of ns group ≡ m → is_of n (entry m) ≡ same_bytes m n
      by [] e = entry-empty n ∙ sym (same-sym [] n ∙ same_none n k)
      by (b ∷ m) e = entry-of n (b ∷ m) (rw e at (short-of ns short group)) (omega arith)

  -- a group's name is found at that group
  pub found_at : Apart ns → (group : ℕ) → 1 ≤ group → group ≤ length ns → 1 ≤ length (name_of ns group) → group_named (name_of ns group) (over (name_index ns) before) ≡ group
  found_at apart group l h k =
      let n = name_of ns group in
      first_found n (over (name_index ns) before) group l (omega arith) (of_entry n group l (omega arith) k ∙ same_self n)
      (λ g i j. of_entry n g i (omega arith) k ∙ before-other ns apart group g j h k)

  -- a name that no group has is not found
  none_from : (n : Name) → 1 ≤ length n → is_used n ns ≡ false → (many group : ℕ) → 1 ≤ group → group + many ≤ suc group_limit → first_named many n (over (name_index ns) before) group ≡ 0
  unfolding first_named
  none_from n k e zero group l h = refl
  none_from n k e (suc many) group l h = rw (of_entry n group l (omega arith) k ∙ unused ns n k e group) (none_from n k e many (suc group) (omega arith) (omega arith))

  pub not_found : (n : Name) → 1 ≤ length n → is_used n ns ≡ false → group_named n (over (name_index ns) before) ≡ 0
  unfolding group_named
  not_found n k e = none_from n k e group_limit 1 (omega arith) (omega arith)
