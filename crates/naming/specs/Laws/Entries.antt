-- Entries of the name index byte by byte, the index entry by entry, and the name that a table has for a group.
use Rattle.std.specs.Prelude.{◌≡◌, refl, Bool, true, false, List, [], ◌∷◌, ◌++◌, set, take, drop, replicate, eqb, if◌then◌else◌}
use Rattle.std.proofs.Common.{sym, ◌∙◌, ap, append_assoc, append-nil, zero-mul, suc-mul, take_all, get_or-take, get_or-drop, eq-eqb, ne_eqb}
use Prim.Native.Nat.{ℕ, zero, suc, ◌+◌, ◌-◌, ◌*◌, ◌≤◌, ◌<◌}
use native.Mathlib.Omega.{arith}
use Rattle.std.proofs.Math.Decide.{dec_lt}
use Rattle.std.proofs.Math.ListN.{length, get_or, get_or-eq_default}
use Rattle.std.proofs.lemmas.List.{length-replicate, replicate-append-replicate}
use Rattle.std.proofs.Math.Seq.{paste, paste-suc, slice, slice_empty, length-slice}
use Rattle.syntax.specs.Limits.{group_limit, name_limit, name_entry, name_index_need}
use Rattle.syntax.specs.Names.{Name, Names}
use Rattle.syntax.specs.Laws.Names.{Short}
use Rattle.semantics.specs.NameIndex.{name_of, entry, entries, name_index}
use Rattle.semantics.specs.Calls.{over}
use Rattle.semantics.proofs.Laws.Areas.{over-more, entry-long, entries-long}
use Rattle.name_table.specs.Table.{names_in, NamesFit, length-names}

-- An entry --------------------------------------------------------------------------

-- past the end of a name stand the zeros that it is padded with, and 0 is what get_or gives there
padded-at : (n : Name) (k i : ℕ) → get_or (n ++ replicate k 0) i 0 ≡ get_or n i 0
padded-at [] zero i = refl
padded-at [] (suc k) zero = refl
padded-at [] (suc k) (suc i) = padded-at [] k i
padded-at (b ∷ n) k zero = refl
padded-at (b ∷ n) k (suc i) = padded-at n k i

pub entry_first : (n : Name) → get_or (entry n) 0 0 ≡ length n
unfolding entry name_entry
entry_first n = refl

pub entry_next : (n : Name) (i : ℕ) → suc i < name_entry → get_or (entry n) (suc i) 0 ≡ get_or n i 0
unfolding entry
entry_next n i h = get_or-take name_entry (length n ∷ (n ++ replicate name_entry 0)) (suc i) 0 h ∙ padded-at n name_entry i

-- the length of a part of a list that is empty, or lies within the list
pub part-long : (s : List ℕ) (from len : ℕ) → (1 ≤ len → from + len ≤ length s) → length (slice from (from + len) s) ≡ len
part-long s from zero h = let e : from + 0 ≡ from = omega arith in rw e (ap length (slice_empty from s))
part-long s from (suc len) h = omega (arith, length-slice from (from + suc len) s (h (omega arith)))

pub part_at : (s : List ℕ) (from len i : ℕ) → i < len → get_or (slice from (from + len) s) i 0 ≡ get_or s (from + i) 0
part_at s from len i h = get_or-drop from (take (from + len) s) i 0 ∙ get_or-take (from + len) s (from + i) 0 (omega arith)

-- the bytes of an entry copied into an area: one more, and all of them
module _ (area : List ℕ) (base : ℕ) (n : Name) where
  pub byte-pasted : (i b : ℕ) (old : List ℕ) → i < name_entry → base + name_entry ≤ length area → old ≡ paste area base (entry n) i → b ≡ get_or (entry n) i 0
      → set old (base + i) b ≡ paste area base (entry n) (suc i)
  byte-pasted i b old l room h e = rw (h, e) (paste-suc area base (entry n) i 0 (omega arith) (omega (arith, entry-long n)))

  pub entry-pasted : paste area base (entry n) name_entry ≡ take base area ++ (entry n ++ drop (base + name_entry) area)
  entry-pasted = rw (take_all name_entry (entry n) (omega (arith, entry-long n))) (append_assoc (take base area) (entry n) (drop (base + name_entry) area))

-- the bytes of an entry whose name is a part of s
module _ (s : List ℕ) (from len i : ℕ) (h : 1 ≤ len → from + len ≤ length s) where
  pub byte-length : i ≡ 0 → len ≡ get_or (entry (slice from (from + len) s)) i 0
  byte-length e = rw e (sym (entry_first (slice from (from + len) s) ∙ part-long s from len h))

  pub byte-name : (k : ℕ) → i ≡ suc k → i < name_entry → k < len → get_or s (from + k) 0 ≡ get_or (entry (slice from (from + len) s)) i 0
  byte-name k e l u = rw e (sym (entry_next (slice from (from + len) s) k (omega arith) ∙ part_at s from len k u))

  pub byte-padding : (k : ℕ) → i ≡ suc k → i < name_entry → len ≤ k → 0 ≡ get_or (entry (slice from (from + len) s)) i 0
  byte-padding k e l u =
      let n = slice from (from + len) s in
      rw e (sym (entry_next n k (omega arith) ∙ get_or-eq_default n 0 (omega (arith, part-long s from len h))))

-- The index ---------------------------------------------------------------------------

-- one entry more, behind the others
pub entries-more : (many : ℕ) (names : Names) (group : ℕ) → entries many names group ++ entry (name_of names (group + many)) ≡ entries (suc many) names group
unfolding entries
entries-more zero names group = let e : group + 0 ≡ group = omega arith in rw e (sym (append-nil (entry (name_of names group))))
entries-more (suc many) names group =
    let e : group + suc many ≡ suc group + many = omega arith in
    rw (e, append_assoc) (ap (λ (l : List ℕ). entry (name_of names group) ++ l) (entries-more many names (suc group)))

-- the entry of the next group, written behind those of g groups
pub entry-behind : (names : Names) (area : List ℕ) (g : ℕ) (old new : List ℕ) → old ≡ over (entries g names 1) area
    → new ≡ take (g * name_entry) old ++ (entry (name_of names (suc g)) ++ drop (g * name_entry + name_entry) old) → new ≡ over (entries (suc g) names 1) area
entry-behind names area g old new h w =
    let e : 1 + g ≡ suc g = omega arith in
    rw (w, h) (
    over-more (entries g names 1) (entry (name_of names (suc g))) area (g * name_entry) name_entry (entries-long g names 1) (entry-long (name_of names (suc g)))
    ∙ ap (λ (l : List ℕ). over l area) (rw e at (entries-more g names 1)))

-- The name of a group --------------------------------------------------------------------

name_of-this : (n : Name) (ns : Names) (group : ℕ) → group ≡ suc (length ns) → name_of (n ∷ ns) group ≡ n
unfolding name_of
name_of-this n ns group e = ap (λ (b : Bool). if b then n else name_of ns group) (eq-eqb group (suc (length ns)) e)

name_of-other : (n : Name) (ns : Names) (group : ℕ) → (group ≡ suc (length ns) → ⊥) → name_of (n ∷ ns) group ≡ name_of ns group
unfolding name_of
name_of-other n ns group h = ap (λ (b : Bool). if b then n else name_of ns group) (ne_eqb group (suc (length ns)) h)

-- a group that there is not has no name
name_of-beyond : (ns : Names) (g : ℕ) → length ns ≤ g → name_of ns (suc g) ≡ []
unfolding name_of
name_of-beyond [] g h = refl
name_of-beyond (n ∷ ns) g h = name_of-other n ns (suc g) (λ e. omega arith) ∙ name_of-beyond ns g (omega arith)

-- Behind the last group -------------------------------------------------------------------

-- the bytes of the index, those of some groups and of the others
need-parts : (groups : ℕ) → groups ≤ group_limit → name_index_need ≡ groups * name_entry + (group_limit - groups) * name_entry
unfolding name_index_need
need-parts groups h = omega arith

-- the entries of some groups, and then those of the next ones
entries-both : (some others : ℕ) (names : Names) (group : ℕ) → entries (some + others) names group ≡ entries some names group ++ entries others names (group + some)
unfolding entries
entries-both zero others names group =
    let e : 0 + others ≡ others = omega arith in
    let f : group + 0 ≡ group = omega arith in
    rw (e, f)
entries-both (suc some) others names group =
    let e : suc some + others ≡ suc (some + others) = omega arith in
    let f : group + suc some ≡ suc group + some = omega arith in
    rw (e, f, append_assoc) (ap (λ (l : List ℕ). entry (name_of names group) ++ l) (entries-both some others names (suc group)))

entry-empty : entry [] ≡ replicate name_entry 0
unfolding entry name_entry
entry-empty = refl

-- behind the last group of a rule stand zeros alone
entries-empty : (many : ℕ) (names : Names) (g : ℕ) → length names ≤ g → entries many names (suc g) ≡ replicate (many * name_entry) 0
unfolding entries
entries-empty zero names g h = rw (zero-mul name_entry)
entries-empty (suc many) names g h =
    let e : name_entry + many * name_entry ≡ suc many * name_entry = omega (arith, suc-mul many name_entry) in
    rw (name_of-beyond names g h, entry-empty, entries-empty many names (suc g) (omega arith)) (replicate-append-replicate name_entry (many * name_entry) 0 ∙ ap (λ (k : ℕ). replicate k 0) e)

-- the entries of all groups of a rule, and zeros behind them
pub index-padded : (names : Names) (area : List ℕ) (groups : ℕ) (old new : List ℕ) → length names ≡ groups → groups ≤ group_limit → old ≡ over (entries groups names 1) area
    → new ≡ take (groups * name_entry) old ++ (replicate (name_index_need - groups * name_entry) 0 ++ drop name_index_need old) → new ≡ over (name_index names) area
unfolding name_index
index-padded names area groups old new n few h w =
    let rest = group_limit - groups in
    let far = need-parts groups few in
    let zeros : name_index_need - groups * name_entry ≡ rest * name_entry = omega (arith, far) in
    let next : 1 + groups ≡ suc groups = omega arith in
    let all : groups + rest ≡ group_limit = omega arith in
    rw (w, h, zeros, far) (
    over-more (entries groups names 1) (replicate (rest * name_entry) 0) area (groups * name_entry) (rest * name_entry) (entries-long groups names 1) (length-replicate (rest * name_entry) 0)
    ∙ ap (λ (l : List ℕ). over l area) (whole rest next all))
  where
    whole : (rest : ℕ) → 1 + groups ≡ suc groups → groups + rest ≡ group_limit → entries groups names 1 ++ replicate (rest * name_entry) 0 ≡ name_index names
    whole rest next all = sym (rw (all, next, entries-empty rest names groups (omega arith)) at (entries-both groups rest names 1))

-- The names of a table -------------------------------------------------------------------

short-by : (b : Bool) (n m : Name) → length n ≤ name_limit → length m ≤ name_limit → length (if b then n else m) ≤ name_limit
short-by true n m h k = h
short-by false n m h k = k

name_of-short : (ns : Names) (group : ℕ) → Short ns → length (name_of ns group) ≤ name_limit
unfolding name_of
name_of-short [] group h = omega arith
name_of-short (n ∷ ns) group h = short-by (eqb group (suc (length ns))) n (name_of ns group) h.0 (name_of-short ns group h.1)

module _ (s table : List ℕ) where
  pub name_in : (groups g : ℕ) → g < groups → name_of (names_in s table groups) (suc g) ≡ slice (get_or table (2 * g) 0) (get_or table (2 * g) 0 + get_or table (2 * g + 1) 0) s
  unfolding names_in
  name_in zero g l = absurd (omega arith)
  name_in (suc k) g l =
      let names = names_in s table k in
      let last = slice (get_or table (2 * k) 0) (get_or table (2 * k) 0 + get_or table (2 * k + 1) 0) s in
      let many : length names ≡ k = length-names s table k in
      elim (dec_lt g k) [
        | yes e ↦ name_of-other last names (suc g) (λ f. omega arith) ∙ name_in k g e
        | no e ↦ let same : g ≡ k = omega arith in rw same (name_of-this last names (suc k) (ap suc (sym many)))
      ]

  -- the number that the table has for the length of a name is no greater than a name is long
  pub name-fits : (groups g : ℕ) → NamesFit s table groups → Short (names_in s table groups) → g < groups → get_or table (2 * g + 1) 0 ≤ name_limit
  name-fits groups g f h l =
      omega (arith, rw (name_in groups g l, part-long s (get_or table (2 * g) 0) (get_or table (2 * g + 1) 0) (f.within g l)) at (name_of-short (names_in s table groups) (suc g) h))
