-- The names of sets: what a comparison with some of a list of names tells, and which case of a named set holds. Assumes nothing.
use mathlib.Core.Path.{◌≡◌, refl, sym, ◌∙◌}
use mathlib.Core.List.{List, [], ◌∷◌}
use mathlib.Core.Bool.{Bool, true, false}
use mathlib.Core.Option.{Option}
use Prim.Native.Nat.{ℕ, zero, suc, ◌+◌, ◌-◌}
use native.Mathlib.Omega.{arith}
use lib.ListN.{length, take, drop}
use lib.Dec.{eqb}
use borrow.Author.Tests.{eqb-true, ne_eqb}
use Rattle.charset.specs.declared.Named.{Named}
use Rattle.syntax.specs.declared.Reason.TheVariants.{UnknownSet}
use Rattle.syntax.specs.Read.{byte, between, bytes, sound, refused}
use Rattle.syntax.specs.Sets.{Naming, ◌names◌, same_bytes, lookup, set_named, single, named, not_named}
use Rattle.syntax.specs.Classes.{letters, posix_member, posix_name, posix}
use Rattle.syntax.specs.Laws.Forward.{and_left, and_right}
use Rattle.std.specs.Prelude.{Option as Maybe, None, Some}
use Rattle.escapes.specs.Says.{set_of}
use Rattle.lexemes.proofs.Runs.{run-taken}

pub never : false ≡ true → ⊥
never e = let bad : ◌≡◌ {A = ℕ} 0 1 = cc in omega arith

-- a comparison that failed
pub differ : {P : Type 0} (r : Bool) → (P → r ≡ true) → r ≡ false → P → ⊥
differ r h e p = never (sym e ∙ h p)

same_bytes_lem : (bs cs : List ℕ) → same_bytes bs cs ≡ true → bs ≡ cs
unfolding same_bytes
same_bytes_lem [] [] e = refl
same_bytes_lem [] (c ∷ cs) e = absurd (never e)
same_bytes_lem (b ∷ bs) [] e = absurd (never e)
same_bytes_lem (b ∷ bs) (c ∷ cs) e =
    let h : b ≡ c = eqb-true b c (and_left (eqb b c) (same_bytes bs cs) e) in
    let t : bs ≡ cs = same_bytes_lem bs cs (and_right (eqb b c) (same_bytes bs cs) e) in
    cc

false-if : (t : Bool) → (t ≡ true → ⊥) → t ≡ false
false-if true h = absurd (h refl)
false-if false h = refl

-- a name is none of the first k of a list
abbrev pub Not : ℕ → List Naming → List ℕ → Type 0
Not zero ns name = Unit
Not (suc k) [] name = Unit
Not (suc k) (text names set ∷ ns) name = (name ≡ bytes text → ⊥) × Not k ns name

pub passed : (k : ℕ) (ns : List Naming) (name : List ℕ) → Not k ns name → lookup (drop k ns) name ≡ lookup ns name
unfolding lookup
passed zero ns name h = refl
passed (suc k) [] name h = refl
passed (suc k) (text names set ∷ ns) name h = passed k ns name h.1 ∙ simp (false-if (same_bytes name (bytes text)) (λ e. h.0 (same_bytes_lem name (bytes text) e)))

-- the letters at a position are the part of the rule up to where they end
letters-taken : (s : List ℕ) (at n : ℕ) → n ≡ length (letters s at) → take n (drop at s) ≡ letters s at
unfolding letters
letters-taken = run-taken (between "a" "z")

-- Named sets ----------------------------------------------------------------------------

pub posix-unknown : (at : ℕ) (negated : Bool) (t : Maybe Named) (next : ℕ) → t ≡ None → refused at UnknownSet ≡ posix_member at negated (set_of t) next
unfolding posix_member
posix-unknown at negated t next e = rw e

pub posix-not : (at : ℕ) (t : Maybe Named) (set : Named) (next : ℕ) (negated : Bool) → t ≡ Some set → negated ≡ true → sound (not_named set) next ≡ posix_member at negated (set_of t) next
unfolding posix_member
posix-not at t set next negated e n = rw (e, n)

pub posix-is : (at : ℕ) (t : Maybe Named) (set : Named) (next : ℕ) (negated : Bool) → t ≡ Some set → negated ≡ false → sound (named set) next ≡ posix_member at negated (set_of t) next
unfolding posix_member
posix-is at t set next negated e n = rw (e, n)

module _ (s : List ℕ) (at : ℕ) (negated : Bool) (start e : ℕ) (k : e ≡ start + length (letters s start)) (b : ℕ) (p : b ≡ byte s e) where
  pub bracket-no-colon : (b ≡ 58 → ⊥) → sound (single 91) (at + 1) ≡ posix_name s at negated start
  unfolding posix_name
  bracket-no-colon n = rw (← k, ← p) (simp (ne_eqb b 58 n))

  module _ (t : b ≡ 58) (d : ℕ) (q : d ≡ byte s (e + 1)) where
    pub bracket-open : (d ≡ 93 → ⊥) → sound (single 91) (at + 1) ≡ posix_name s at negated start
    unfolding posix_name
    bracket-open n = rw (← k, ← p, t, ← q) (simp (ne_eqb d 93 n))

    pub set-closed : d ≡ 93 → (u : Option Named) → u ≡ set_named (take (e - start) (drop start s)) → posix_member at negated u (e + 2) ≡ posix_name s at negated start
    unfolding posix_name
    set-closed h u f =
        let l : e - start ≡ length (letters s start) = omega arith in
        rw (← k, ← p, t, ← q, h, f, letters-taken s start (e - start) l)

module _ (s : List ℕ) (at b : ℕ) (p : b ≡ byte s (at + 1)) where
  pub posix-literal : (b ≡ 58 → ⊥) → sound (single 91) (at + 1) ≡ posix s at
  unfolding posix
  posix-literal n = rw (← p) (simp (ne_eqb b 58 n))

  module _ (t : b ≡ 58) (d : ℕ) (q : d ≡ byte s (at + 2)) where
    pub posix-complement : d ≡ 94 → posix_name s at true (at + 3) ≡ posix s at
    unfolding posix
    posix-complement h = rw (← p, t, ← q, h)

    pub posix-plain : (d ≡ 94 → ⊥) → posix_name s at false (at + 2) ≡ posix s at
    unfolding posix
    posix-plain n = rw (← p, t, ← q) (simp (ne_eqb d 94 n))
