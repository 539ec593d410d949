-- The columns one after another, and the bytes of a name.
use Rattle.std.specs.Prelude.{◌≡◌, length, drop}
use Rattle.std.proofs.Math.Path.{refl, sym, ap}
use Rattle.std.proofs.Common.{◌∙◌, add-one, take-take, get_or-take, drop-drop, drop_at}
use mathlib.Core.List.{List, [], ◌∷◌, ◌++◌, append_assoc, append-nil}
use Rattle.std.proofs.Math.Logic.{inl, inr}
use Prim.Native.Nat.{ℕ, zero, suc, ◌+◌, ◌-◌, ◌*◌, ◌≤◌, ◌<◌, min}
use native.Mathlib.Omega.{arith}
use Rattle.std.proofs.Math.ListN.{get_or, take, length-take, length-drop}
use Rattle.std.proofs.Math.Seq.{get_or-drop, take_all, take-nil, take_at, length-take-le}
use Rattle.syntax.specs.Limits.{name_limit, name_entry}
use Rattle.semantics.proofs.Laws.Cases.{le-or}
use Rattle.text.specs.Writing.{written}
use Rattle.lookup.specs.Names.{entry_of, name_length, name_in}
use Rattle.fields_columns.specs.Columns.{name_at, names_from, named}

module _ (columns : List ℕ) (i count : ℕ) where
  -- one column, and those behind it
  pub names-next : i < count → names_from columns i (count - i) ≡ name_at columns i ∷ names_from columns (suc i) (count - suc i)
  unfolding names_from
  names-next h = let e : count - i ≡ suc (count - suc i) = omega arith in rw e

  pub names-none : count ≤ i → names_from columns i (count - i) ≡ []
  unfolding names_from
  names-none h = let e : count - i ≡ 0 = omega arith in rw e

-- behind the first byte of a part of a list
behind-first : (n m : ℕ) (l : List ℕ) → n ≤ m → take n (drop 1 (take (suc m) l)) ≡ take n (drop 1 l)
behind-first n m [] h = refl
behind-first n m (x ∷ l) h = take-take n m l h

-- the bytes behind the first of an entry, as many as it says
module _ (columns : List ℕ) (i from : ℕ) (at : from ≡ i * name_entry) where
  entry_at : entry_of columns (suc i) ≡ take name_entry (drop from columns)
  unfolding entry_of name_entry
  entry_at = let e : name_entry * (suc i - 1) ≡ from = omega arith in rw e

  length_at : name_length (entry_of columns (suc i)) ≡ get_or columns from 0
  unfolding name_length name_entry
  length_at = rw entry_at (get_or-take name_entry (drop from columns) 0 0 (omega arith) ∙ get_or-drop from columns 0 0 ∙ ap (λ (k : ℕ). get_or columns k 0) (omega arith))

  -- as far as there is room for a name
  bytes-at : (n : ℕ) → n ≤ name_limit → take n (drop 1 (entry_of columns (suc i))) ≡ take n (drop (from + 1) columns)
  unfolding name_entry
  bytes-at n h = rw entry_at (behind-first n name_limit (drop from columns) h ∙ ap (take n) (drop-drop 1 from columns))

  short : (n : ℕ) → name_limit ≤ n → length (drop 1 (entry_of columns (suc i))) ≤ n
  unfolding name_entry
  short n h = rw entry_at (omega (arith, length-drop 1 (take name_entry (drop from columns)), length-take name_entry (drop from columns)))

  pub name-at : (size end : ℕ) → size ≡ min (get_or columns from 0) name_limit → end ≡ from + 1 + size → take (end - (from + 1)) (drop (from + 1) columns) ≡ name_at columns i
  unfolding name_at name_in name_limit
  name-at size end s e =
      let f : end - (from + 1) ≡ size = omega arith in
      let few : size ≤ name_limit = omega arith in
      rw (f, length_at) (sym (bytes-at size few) ∙ elim (le-or (get_or columns from 0) name_limit) [
        | inl h ↦ let a : size ≡ get_or columns from 0 = omega arith in ap (λ (k : ℕ). take k (drop 1 (entry_of columns (suc i)))) a
        | inr h ↦ take_all size (drop 1 (entry_of columns (suc i))) (short size (omega arith)) ∙ sym (take_all (get_or columns from 0) (drop 1 (entry_of columns (suc i))) (short (get_or columns from 0) (omega arith)))
      ])

-- a name is short
pub name-short : (columns : List ℕ) (i : ℕ) → length (name_at columns i) ≤ name_limit
unfolding name_at name_in
name-short columns i =
    let entry = entry_of columns (suc i) in
    omega (arith, length-take (name_length entry) (drop 1 entry), short columns i (i * name_entry) refl name_limit (omega arith))

-- A column put behind others ------------------------------------------------------

-- a part of a list is the end of its beginning
part_of : (k m : ℕ) (l : List ℕ) → take m (drop k l) ≡ drop k (take (k + m) l)
part_of zero m l = let e : 0 + m ≡ m = omega arith in rw e
part_of (suc k) m [] = let e : suc k + m ≡ suc (k + m) = omega arith in rw e (take-nil m)
part_of (suc k) m (x ∷ l) = let e : suc k + m ≡ suc (k + m) = omega arith in rw e (part_of k m l)

-- a part of what two lists share
shared-part : (a b : List ℕ) (n k m : ℕ) → take n a ≡ take n b → k + m ≤ n → take m (drop k a) ≡ take m (drop k b)
shared-part a b n k m e h =
    part_of k m a ∙ ap (drop k) (sym (take-take (k + m) n a h) ∙ ap (take (k + m)) e ∙ take-take (k + m) n b h) ∙ sym (part_of k m b)

module _ (columns : List ℕ) (count : ℕ) (name new : List ℕ) (short : length name ≤ name_limit) (fits : count * name_entry + name_entry ≤ length columns) (is : new ≡ written columns (count * name_entry) (length name ∷ name)) where
  front : length (take (count * name_entry) columns) ≡ count * name_entry
  unfolding name_entry
  front = length-take-le (count * name_entry) columns (omega arith)

  rest : List ℕ
  rest = drop (count * name_entry + length (length name ∷ name)) columns

  kept : take (count * name_entry) new ≡ take (count * name_entry) columns
  unfolding written rest
  kept = rw is (take_at (take (count * name_entry) columns) ((length name ∷ name) ++ rest) (count * name_entry) front)

  behind : drop (count * name_entry) new ≡ length name ∷ (name ++ rest)
  unfolding written rest
  behind = rw is (drop_at (take (count * name_entry) columns) ((length name ∷ name) ++ rest) (count * name_entry) front)

  -- the new name
  name_new : name_at new count ≡ name
  unfolding name_at name_in name_length name_entry
  name_new = rw (entry_at new count (count * name_entry) refl, behind) (take-take (length name) name_limit (name ++ rest) short ∙ take_at name rest (length name) refl)

  -- and those before it
  name-old : (i : ℕ) → i < count → name_at new i ≡ name_at columns i
  unfolding name_at name_entry
  name-old i h = ap name_in (entry_at new i (i * name_entry) refl ∙ shared-part new columns (count * name_entry) (i * name_entry) name_entry kept (omega arith) ∙ sym (entry_at columns i (i * name_entry) refl))

  added-from : (many i : ℕ) → i + many ≡ count → names_from new i (suc many) ≡ names_from columns i many ++ (name ∷ [])
  unfolding names_from
  added-from zero i e = let f : i ≡ count = omega arith in rw f (ap (λ (l : List ℕ). l ∷ []) name_new)
  added-from (suc many) i e = rw (name-old i (omega arith), added-from many (suc i) (omega arith))

  pub names-added : names_from new 0 (count + 1) ≡ names_from columns 0 count ++ (name ∷ [])
  names-added = rw (add-one count) (added-from count 0 (omega arith))

-- All names -----------------------------------------------------------------------

named-cons : (name : List ℕ) (names : List (List ℕ)) → named (name ∷ names) ≡ named (name ∷ []) ++ named names
unfolding named
named-cons [] names = refl
named-cons (b ∷ name) names = refl

pub named_none : (name : List ℕ) → length name ≡ 0 → named (name ∷ []) ≡ []
unfolding named
named_none [] e = refl
named_none (b ∷ name) e = absurd (omega arith)

pub named-one : (name : List ℕ) → (length name ≡ 0 → ⊥) → named (name ∷ []) ≡ name ∷ []
unfolding named
named-one [] h = absurd (h refl)
named-one (b ∷ name) h = refl

-- one group more was looked at
pub named_more : (index : List ℕ) (i count : ℕ) (name : List ℕ) (before after : List (List ℕ)) → i < count → name ≡ name_at index i → after ≡ before ++ named (name ∷ [])
    → after ++ named (names_from index (suc i) (count - suc i)) ≡ before ++ named (names_from index i (count - i))
named_more index i count name before after h is e =
    rw (names-next index i count h, e, is, append_assoc) (ap (λ (l : List (List ℕ)). before ++ l) (sym (named-cons (name_at index i) (names_from index (suc i) (count - suc i)))))

pub named-all : (index : List ℕ) (i count : ℕ) (before : List (List ℕ)) → count ≤ i → before ++ named (names_from index i (count - i)) ≡ before
unfolding named
named-all index i count before h = rw (names-none index i count h) (append-nil before)
