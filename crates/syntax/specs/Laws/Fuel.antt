-- The numbers that bound a loop's turns never matter, as long as they bound the bytes left: any two such numbers give one reading.
use Rattle.std.specs.Prelude.{◌≡◌, refl, List, [], ◌∷◌, Bool, true, false, not, ◌&&◌, ℕ, zero, suc, ◌+◌, ◌-◌, ◌≤◌, ◌<◌, length, if◌then◌else◌}
use Rattle.std.proofs.Common.{sym, arith, eqb-true}
use Rattle.std.proofs.Math.ListN.{get_or-eq_default}
use Rattle.syntax.specs.declared.Reason.TheVariants.{UnclosedClass}
use Rattle.syntax.specs.Read.{byte, is_end, is, Read, sound, refused, and_then}
use Rattle.syntax.specs.Sets.{Member}
use Rattle.syntax.specs.Tree.{Branches, also, alternatives}
use Rattle.syntax.specs.Classes.{element, member, members}
use Rattle.syntax.specs.Quantifiers.{quantifier}
use Rattle.syntax.specs.Names.{Names}
use Rattle.syntax.specs.Grammar.{behind_blanks, Inner, Sequence, whole, part, ends, sequence, branch, further}
use Rattle.syntax.specs.Laws.Blanks.{blanks-on, blanks-past}
use Rattle.syntax.specs.Laws.Forward.{Given, Past, Forward, member-on, part-on, branch-on}

-- Past the end ---------------------------------------------------------------

pub byte_past : (s : List ℕ) (i : ℕ) → length s ≤ i → byte s i ≡ 256
unfolding byte
byte_past s i h = get_or-eq_default s 256 h

-- a byte below 256 stands within the rule
pub byte-in : (s : List ℕ) (i : ℕ) → byte s i < 256 → i < length s
unfolding byte
byte-in [] i h = absurd (omega arith)
byte-in (x ∷ xs) zero h = omega arith
byte-in (x ∷ xs) (suc i) h = let k : i < length xs = byte-in xs i h in omega arith

-- Equal readings -------------------------------------------------------------

pub then_same : {A B : Type 0} (P : A → ℕ → Type 0) (a : Read A) (j k : A → ℕ → Read B) → Given a P → ((x : A) (n : ℕ) → P x n → j x n ≡ k x n) → and_then a j ≡ and_then a k
then_same P (sound x n) j k g h = h x n g
then_same P (refused p r) j k g h = refl

pub else_same : {A : Type 0} (b : Bool) (x y z : A) → y ≡ z → (if b then x else y) ≡ (if b then x else z)
else_same true x y z e = refl
else_same false x y z e = e

pub if-same : {A : Type 0} (b : Bool) (x y z : A) → (b ≡ true → x ≡ y) → (if b then x else z) ≡ (if b then y else z)
if-same true x y z e = e refl
if-same false x y z e = refl

-- Classes --------------------------------------------------------------------

members-past : (f : ℕ) (s : List ℕ) (strict : Bool) (from : ℕ) (first : Bool) (before : List Member) (at : ℕ) → length s ≤ at → members f s strict from first before at ≡ refused from UnclosedClass
unfolding members member element is_end
members-past zero s strict from first before at h = refl
members-past (suc f) s strict from first before at h = rw (byte_past s at h)

pub members-fuel : (f k : ℕ) (s : List ℕ) (strict : Bool) (from : ℕ) (first : Bool) (before : List Member) (at : ℕ) → length s - at ≤ f → length s - at ≤ k → members f s strict from first before at ≡ members k s strict from first before at
unfolding members
members-fuel zero k s strict from first before at l m = sym (members-past k s strict from first before at (omega arith))
members-fuel (suc f) zero s strict from first before at l m = members-past (suc f) s strict from first before at (omega arith)
members-fuel (suc f) (suc k) s strict from first before at l m =
    else_same (is "]" (byte s at) && not first) _ _ _
    (then_same (Past (at + 1)) (member s strict from at) _ _ (member-on s strict from at) (λ x p n. members-fuel f k s strict from false (x ∷ before) p (omega arith) (omega arith)))

-- Sequences ------------------------------------------------------------------

sequence-past : (f : ℕ) (s : List ℕ) (flags : ℕ) (known : Names) (inner : Inner) (q : Sequence) (opened : Names) (at : ℕ) → length s ≤ at → sequence f s flags known inner q opened at ≡ sound (whole q, opened) at
unfolding sequence ends is_end
sequence-past zero s flags known inner q opened at h = refl
sequence-past (suc f) s flags known inner q opened at h = rw (blanks-past s flags at h, byte_past s at h)

pub sequence-fuel : (f k : ℕ) (s : List ℕ) (flags : ℕ) (known : Names) (inner : Inner) (q : Sequence) (opened : Names) (at : ℕ) → Forward inner → length s - at ≤ f → length s - at ≤ k
    → sequence f s flags known inner q opened at ≡ sequence k s flags known inner q opened at
unfolding sequence
sequence-fuel zero k s flags known inner q opened at h l m = sym (sequence-past k s flags known inner q opened at (omega arith))
sequence-fuel (suc f) zero s flags known inner q opened at h l m = sequence-past (suc f) s flags known inner q opened at (omega arith)
sequence-fuel (suc f) (suc k) s flags known inner q opened start h l m =
    let at = behind_blanks s flags start in
    let on = blanks-on s flags start in
    else_same (ends (byte s at)) _ _ _
    (then_same (Past (at + 1)) (part s flags known inner q opened at (quantifier s at)) _ _ (part-on s flags known inner q opened at h) (λ r p n. sequence-fuel f k s flags known inner r.0 r.1 p h (omega arith) (omega arith)))

-- Alternations ---------------------------------------------------------------

further_past : (f : ℕ) (s : List ℕ) (flags : ℕ) (known : Names) (inner : Inner) (bs : Branches) (opened : Names) (at : ℕ) → length s ≤ at → further f s flags known inner bs opened at ≡ sound (alternatives bs, opened) at
unfolding further
further_past zero s flags known inner bs opened at h = refl
further_past (suc f) s flags known inner bs opened at h = rw (byte_past s at h)

bar-in : (s : List ℕ) (at : ℕ) → is "|" (byte s at) ≡ true → at < length s
bar-in s at e = let h : byte s at ≡ 124 = eqb-true (byte s at) 124 e in byte-in s at (omega arith)

pub further-fuel : (f k : ℕ) (s : List ℕ) (flags : ℕ) (known : Names) (inner : Inner) (bs : Branches) (opened : Names) (at : ℕ) → Forward inner → length s - at ≤ f → length s - at ≤ k
    → further f s flags known inner bs opened at ≡ further k s flags known inner bs opened at
unfolding further
further-fuel zero k s flags known inner bs opened at h l m = sym (further_past k s flags known inner bs opened at (omega arith))
further-fuel (suc f) zero s flags known inner bs opened at h l m = further_past (suc f) s flags known inner bs opened at (omega arith)
further-fuel (suc f) (suc k) s flags known inner bs opened at h l m =
    if-same (is "|" (byte s at)) _ _ _ (λ e. let i = bar-in s at e in
    then_same (Past (at + 1)) (branch s flags known inner opened (at + 1)) _ _ (branch-on s flags known inner opened (at + 1) h) (λ r p n. further-fuel f k s flags known inner (also bs at r.0) r.1 p h (omega arith) (omega arith)))

-- The loops' equations, with no number that falls ---------------------------------

pub members-turn : (s : List ℕ) (strict : Bool) (from : ℕ) (first : Bool) (before : List Member) (at : ℕ) → members (length s) s strict from first before at
    ≡ (if is "]" (byte s at) && not first then sound before (at + 1) else and_then (member s strict from at) (λ m next. members (length s) s strict from false (m ∷ before) next))
unfolding members
members-turn s strict from first before at = members-fuel (length s) (suc (length s)) s strict from first before at (omega arith) (omega arith)

pub sequence-turn : (s : List ℕ) (flags : ℕ) (known : Names) (inner : Inner) (q : Sequence) (opened : Names) (start : ℕ) → Forward inner →
    let at = behind_blanks s flags start in
    sequence (length s) s flags known inner q opened start
    ≡ (if ends (byte s at) then sound (whole q, opened) at else and_then (part s flags known inner q opened at (quantifier s at)) (λ r next. sequence (length s) s flags known inner r.0 r.1 next))
unfolding sequence
sequence-turn s flags known inner q opened start h = sequence-fuel (length s) (suc (length s)) s flags known inner q opened start h (omega arith) (omega arith)

pub further-turn : (s : List ℕ) (flags : ℕ) (known : Names) (inner : Inner) (bs : Branches) (opened : Names) (at : ℕ) → Forward inner → further (length s) s flags known inner bs opened at
    ≡ (if is "|" (byte s at) then and_then (branch s flags known inner opened (at + 1)) (λ r next. further (length s) s flags known inner (also bs at r.0) r.1 next) else sound (alternatives bs, opened) at)
unfolding further
further-turn s flags known inner bs opened at h = further-fuel (length s) (suc (length s)) s flags known inner bs opened at h (omega arith) (omega arith)
