-- Names of groups: where the word bytes at a position stand, whether they are a name, and which case of a name up to what closes it, or of a
-- reference by name, holds. Assumes nothing.
use mathlib.Core.Path.{◌≡◌, refl, ◌∙◌}
use mathlib.Core.List.{List, [], ◌∷◌}
use mathlib.Core.Bool.{Bool, true, false, not}
use Prim.Native.Nat.{ℕ, zero, suc, ◌+◌, ◌-◌, ◌≤◌, ◌<◌}
use Prim.Native.Char.{Char, code}
use native.Mathlib.Omega.{arith}
use native.Mathlib.Numerals.{unary_clauses}
use native.Mathlib.Nat.{zero-add, suc-add}
use lib.ListN.{length, get_or, take, drop}
use lib.Dec.{leb}
use lib.Seq.{slice, get_or-drop}
use borrow.Author.Tests.{le-leb, lt-leb, leb-true, eq-eqb, ne_eqb}
use Rattle.charset.specs.declared.Named.TheVariants.{Digit, Word}
use Rattle.charset.specs.Named.{ranges, in_range, in_ranges, in_named}
use Rattle.syntax.specs.declared.Reason.TheVariants.{BadName}
use Rattle.syntax.specs.Limits.{name_limit}
use Rattle.syntax.specs.Read.{byte, Read, sound, refused}
use Rattle.syntax.specs.Names.{Name, word_at, is_name, name_up_to}
use Rattle.syntax.specs.Escapes.{called, calls_by_name}
use Rattle.syntax.specs.Laws.Forward.{and_left, and_right}
use Rattle.syntax.specs.Laws.Within.{is-in}
use Rattle.std.specs.Prelude.{Result}
use Rattle.syntax.specs.declared.Parsed.{Parsed}
use Rattle.syntax.specs.declared.Refusal.{Refusal}
use Rattle.lexemes.specs.declared.Name.{Name as NameAt}
use Rattle.lexemes.specs.Says.{Peeked, NameWithin, SaysName}
use Rattle.lexemes.proofs.Runs.{run-taken, run-first}

-- equal readings say the same
pub same_name : (s : List ℕ) {a b : Read Name} (r : Result (Parsed NameAt) Refusal) → a ≡ b → SaysName s a r → SaysName s b r
same_name s r e h = rw e at h

-- The word bytes at a position ---------------------------------------------------------

slice_taken : (at n : ℕ) (l : List ℕ) → slice at (at + n) l ≡ take n (drop at l)
slice_taken zero n l = rw (zero-add n)
slice_taken (suc at) zero [] = simp unary_clauses refl
slice_taken (suc at) (suc n) [] = simp unary_clauses refl
slice_taken (suc at) n (x ∷ xs) = rw (suc-add at n) (slice_taken at n xs)

module _ (s : List ℕ) (at len : ℕ) (k : len ≡ length (word_at s at)) where
  word-here : slice at (at + len) s ≡ word_at s at
  unfolding word_at
  word-here = slice_taken at len s ∙ run-taken (in_named Word) s at len k

  word_first : 1 ≤ len → get_or (word_at s at) 0 0 ≡ get_or s at 0
  unfolding word_at
  word_first h = let d = get_or-drop at s 0 0 in run-first (in_named Word) (drop at s) (omega arith) ∙ (simp unary_clauses at d)

  -- Whether they are a name

  pub name-none : len ≡ 0 → false ≡ is_name (word_at s at)
  unfolding is_name
  name-none e = rw (← k, e)

  pub name-long : name_limit < len → false ≡ is_name (word_at s at)
  unfolding is_name name_limit
  name-long h = rw (← k) (simp (le-leb 1 len (omega arith), lt-leb len name_limit h))

  pub name-fits : (len ≡ 0 → ⊥) → len ≤ name_limit → (t : Bool) → t ≡ in_named Digit (get_or s at 0) → not t ≡ is_name (word_at s at)
  unfolding is_name name_limit
  name-fits n h t e = rw (e, word_first (omega arith), ← k) (simp (le-leb 1 len (omega arith), le-leb len name_limit h))

  name-some : is_name (word_at s at) ≡ true → 1 ≤ len
  unfolding is_name
  name-some e = rw k (leb-true 1 _ (and_left (leb 1 (length (word_at s at))) _ (and_left _ _ e)))

  name-most : is_name (word_at s at) ≡ true → len ≤ name_limit
  unfolding is_name
  name-most e = rw k (leb-true _ name_limit (and_right (leb 1 (length (word_at s at))) _ (and_left _ _ e)))

-- A name up to what closes it: its word bytes end at e ---------------------------------------

module _ (s : List ℕ) (place at : ℕ) (c : Char) where
  pub no_name : is_name (word_at s at) ≡ false → refused place BadName ≡ name_up_to c s place at
  unfolding name_up_to
  no_name n = rw n

  module _ (n : is_name (word_at s at) ≡ true) (e : ℕ) (k : e ≡ at + length (word_at s at)) (b : ℕ) (p : Peeked s e b) where
    pub name-unclosed : (b ≡ code c → ⊥) → refused place BadName ≡ name_up_to c s place at
    unfolding name_up_to
    name-unclosed h = rw (← k, ← p.is, n, ne_eqb b (code c) h)

    pub name-closed : b ≡ code c → b < 256 → (name_up_to c s place at ≡ sound (slice at (at + (e - at)) s) (e + 1)) × NameWithin s at (e - at) (e + 1)
    unfolding name_up_to
    name-closed h l =
        let m : e - at ≡ length (word_at s at) = omega arith in
        let w = p.near in
        let o = name-some s at (e - at) m n in
        (rw (word-here s at (e - at) m, ← k, ← p.is, n, eq-eqb b (code c) h), record { some = o; most = name-most s at (e - at) m n; closed = omega arith; behind = omega arith })

-- References by name ----------------------------------------------------------------------------

module _ (s : List ℕ) (at b : ℕ) (p : b ≡ byte s (at + 2)) where
  pub called-brace : b ≡ 123 → name_up_to "}" s at (at + 3) ≡ called s at
  unfolding called
  called-brace e = rw (← p, e)

  pub called-angle : b ≡ 60 → name_up_to ">" s at (at + 3) ≡ called s at
  unfolding called
  called-angle e = rw (← p, e)

  pub called-apostrophe : b ≡ 39 → name_up_to "'" s at (at + 3) ≡ called s at
  unfolding called
  called-apostrophe e = rw (← p, e)

  pub called-other : (b ≡ 123 → ⊥) → (b ≡ 60 → ⊥) → (b ≡ 39 → ⊥) → refused at BadName ≡ called s at
  unfolding called
  called-other n1 n2 n3 = rw (← p) (simp (ne_eqb b 123 n1, ne_eqb b 60 n2, ne_eqb b 39 n3))

  pub calls-unbraced : (b ≡ 123 → ⊥) → false ≡ calls_by_name s at
  unfolding calls_by_name
  calls-unbraced n = rw (← p) (simp (ne_eqb b 123 n))

  module _ (o : b ≡ 123) (d : ℕ) (q : d ≡ byte s (at + 3)) where
    pub calls-end : d ≡ 256 → false ≡ calls_by_name s at
    unfolding calls_by_name in_named in_ranges in_range ranges
    calls-end e = rw (← p, o, ← q, e)

    pub calls-nothing : in_named Word d ≡ false → false ≡ calls_by_name s at
    unfolding calls_by_name
    calls-nothing n = rw (← p, o, ← q, n)

    pub calls-unless-digit : in_named Word d ≡ true → (t : Bool) → t ≡ in_named Digit d → not t ≡ calls_by_name s at
    unfolding calls_by_name
    calls-unless-digit w t e = rw (← p, o, ← q, w, e)

-- the brace stands within the rule
pub calls-in : (s : List ℕ) (at : ℕ) → calls_by_name s at ≡ true → at + 3 ≤ length s
unfolding calls_by_name
calls-in s at e = let i = is-in s (at + 2) 123 (omega arith) (and_left _ _ (and_left _ _ e)) in omega arith
