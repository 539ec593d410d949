-- Bytes and assertions, in the form in which the code tests them. Assumes nothing.
use mathlib.Core.Path.{◌≡◌, refl, sym, ◌∙◌}
use mathlib.Core.List.{List}
use mathlib.Core.Bool.{Bool, true, false, not, ◌&&◌}
use Prim.Native.Nat.{ℕ, zero, suc, ◌+◌, ◌-◌, ◌≤◌, ◌<◌}
use native.Mathlib.Omega.{arith}
use native.Mathlib.Numerals.{add-one, sub-one}
use lib.ListN.{length, get_or, drop, get_or-eq_default}
use lib.Dec.{eqb}
use borrow.Author.Tests.{lt-ltb, le-ltb, le-leb, lt-leb, eq-eqb, ne_eqb}
use Rattle.charset.specs.Class.{has}
use Rattle.charset.specs.Named.{◌to◌, in_range}
use Rattle.syntax.specs.declared.Assertion.TheVariants.{TextStart, LineStart, TextEnd, LastLineEnd, LineEnd, WordBoundary, NoWordBoundary}
use Rattle.syntax.specs.Read.{byte}
use Rattle.semantics.specs.Assertions.{byte_before, is_newline, is_word, exactly_one, holds}
use Rattle.semantics.specs.States.{moved}
use Rattle.semantics.specs.Items.{when}
use Rattle.machine.specs.declared.Machine.{Machine}
use Rattle.machine.specs.Code.{assertion_of}
use Rattle.machine.specs.Moves.{Stack, go, tested, price, paid, fall, tried, carry_out}
use Rattle.machine.specs.Words.{stack_of, carried}
use Rattle.machine.specs.Laws.Extent.{byte-in}

-- Bytes ----------------------------------------------------------------------

pub byte_past : (sub : List ℕ) (i : ℕ) → length sub ≤ i → 256 ≡ byte sub i
unfolding byte
byte_past sub i h = sym (get_or-eq_default sub 256 h)

pub before-some : (sub : List ℕ) (i : ℕ) → 0 < i → byte sub (i - 1) ≡ byte_before sub i
unfolding byte_before
before-some sub zero h = absurd (omega arith)
before-some sub (suc i) h = rw sub-one

pub before-none : (sub : List ℕ) (i : ℕ) → i ≤ 0 → 256 ≡ byte_before sub i
unfolding byte_before
before-none sub zero h = refl
before-none sub (suc i) h = absurd (omega arith)

-- a byte below a range, and above it
pub under-range : (b low high : ℕ) → b < low → in_range b (low to high) ≡ false
unfolding in_range
under-range b low high h = rw (lt-leb low b h)

pub over-range : (b low high : ℕ) → low ≤ high → high < b → in_range b (low to high) ≡ false
unfolding in_range
over-range b low high l h = rw (le-leb low b (omega arith), lt-leb b high h)

-- Assertions -------------------------------------------------------------------

and-true : (b : Bool) → b ≡ (b && true)
and-true true = refl
and-true false = refl

and-false : (b : Bool) → false ≡ (b && false)
and-false true = refl
and-false false = refl

module _ (sub : List ℕ) (at : ℕ) where
  pub start_first : at ≡ 0 → true ≡ holds sub LineStart at
  unfolding holds
  start_first e = rw (eq-eqb at 0 e)

  pub start-in : (at ≡ 0 → ⊥) → at < length sub → eqb (byte_before sub at) 10 ≡ holds sub LineStart at
  unfolding holds is_newline
  start-in x h = rw (ne_eqb at 0 x, lt-ltb at (length sub) h) (and-true (eqb (byte_before sub at) 10))

  pub start-out : (at ≡ 0 → ⊥) → length sub ≤ at → false ≡ holds sub LineStart at
  unfolding holds is_newline
  start-out x h = rw (ne_eqb at 0 x, le-ltb at (length sub) h) (and-false (eqb (byte_before sub at) 10))

  pub last_end : at ≡ length sub → true ≡ holds sub LastLineEnd at
  unfolding holds
  last_end e = rw (eq-eqb at (length sub) e)

  pub last-near : (at ≡ length sub → ⊥) → at + 1 ≡ length sub → eqb (byte sub at) 10 ≡ holds sub LastLineEnd at
  unfolding holds is_newline
  last-near x e = rw (ne_eqb at (length sub) x, eq-eqb (suc at) (length sub) (sym (add-one at) ∙ e)) (and-true (eqb (byte sub at) 10))

  pub last-far : (at ≡ length sub → ⊥) → (at + 1 ≡ length sub → ⊥) → false ≡ holds sub LastLineEnd at
  unfolding holds is_newline
  last-far x y = rw (ne_eqb at (length sub) x, ne_eqb (suc at) (length sub) (λ e. y (add-one at ∙ e))) (and-false (eqb (byte sub at) 10))

  pub line-end : at ≡ length sub → true ≡ holds sub LineEnd at
  unfolding holds
  line-end e = rw (eq-eqb at (length sub) e)

  pub line-in : (at ≡ length sub → ⊥) → eqb (byte sub at) 10 ≡ holds sub LineEnd at
  unfolding holds is_newline
  line-in x = rw (ne_eqb at (length sub) x)

  module _ (a b : ℕ) (x y : Bool) (e : a ≡ byte_before sub at) (f : x ≡ is_word a) (g : b ≡ byte sub at) (h : y ≡ is_word b) where
    pub boundary-word : x ≡ true → not y ≡ holds sub WordBoundary at
    unfolding holds exactly_one
    boundary-word i = rw (← e, ← g, ← f, ← h, i)

    pub boundary-other : x ≡ false → y ≡ holds sub WordBoundary at
    unfolding holds exactly_one
    boundary-other i = rw (← e, ← g, ← f, ← h, i)

  pub no-boundary : not (holds sub WordBoundary at) ≡ holds sub NoWordBoundary at
  unfolding holds
  no-boundary = refl

  pub text-start : eqb at 0 ≡ holds sub TextStart at
  unfolding holds
  text-start = refl

  pub text-end : eqb at (length sub) ≡ holds sub TextEnd at
  unfolding holds
  text-end = refl

  -- the assertion whose number is k
  pub numbered : (k n : ℕ) → k ≡ n → {x : Bool} → x ≡ holds sub (assertion_of n) at → x ≡ holds sub (assertion_of k) at
  numbered k n e h = rw e h

pub assertion-rest : (k : ℕ) → (k ≡ 0 → ⊥) → (k ≡ 1 → ⊥) → (k ≡ 2 → ⊥) → (k ≡ 3 → ⊥) → (k ≡ 4 → ⊥) → (k ≡ 5 → ⊥) → assertion_of k ≡ NoWordBoundary
unfolding assertion_of
assertion-rest zero a b c d e f = absurd (a refl)
assertion-rest (suc zero) a b c d e f = absurd (b refl)
assertion-rest (suc (suc zero)) a b c d e f = absurd (c refl)
assertion-rest (suc (suc (suc zero))) a b c d e f = absurd (d refl)
assertion-rest (suc (suc (suc (suc zero)))) a b c d e f = absurd (e refl)
assertion-rest (suc (suc (suc (suc (suc zero))))) a b c d e f = absurd (f refl)
assertion-rest (suc (suc (suc (suc (suc (suc k)))))) a b c d e f = refl

-- The nodes of items -----------------------------------------------------------------

module _ (p sub regs work : List ℕ) (m : Machine) where
  abbrev next : ℕ
  next = get_or p (m.pc + 1) 0

  -- the number of an assertion
  abbrev operand : ℕ
  operand = get_or p (m.pc + 3) 0

  abbrev stack : Stack
  stack = stack_of work m.height

  module _ (h : m.at < length sub) where
    pub byte-hit : has (drop (m.pc + 3) p) (get_or sub m.at 0) ≡ true → carried 0 p sub regs work m ≡ go next (m.at + 1) regs stack
    unfolding carry_out price paid tried tested when moved
    byte-hit e = rw (carried, lt-ltb m.at (length sub) h, ← byte-in sub m.at h, e, add-one m.at)

    pub byte-miss : has (drop (m.pc + 3) p) (get_or sub m.at 0) ≡ false → carried 0 p sub regs work m ≡ fall p regs stack
    unfolding carry_out price paid tried tested when
    byte-miss e = rw (carried, lt-ltb m.at (length sub) h, ← byte-in sub m.at h, e)

  pub byte-out : length sub ≤ m.at → carried 0 p sub regs work m ≡ fall p regs stack
  unfolding carry_out price paid tried tested when
  byte-out h = rw (carried, le-ltb m.at (length sub) h)

  pub assertion-hit : holds sub (assertion_of operand) m.at ≡ true → carried 1 p sub regs work m ≡ go next m.at regs stack
  unfolding carry_out price paid tried tested when
  assertion-hit e = rw (carried, e)

  pub assertion-miss : holds sub (assertion_of operand) m.at ≡ false → carried 1 p sub regs work m ≡ fall p regs stack
  unfolding carry_out price paid tried tested when
  assertion-miss e = rw (carried, e)
