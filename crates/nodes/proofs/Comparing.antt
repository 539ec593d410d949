-- References: what is known after some bytes were the same, and where a reference's steps lead. Assumes nothing.
use mathlib.Core.Path.{◌≡◌, refl, sym, ◌∙◌}
use mathlib.Core.List.{List}
use mathlib.Core.Bool.{Bool, true, false, not, ◌&&◌}
use Prim.Native.Nat.{ℕ, zero, suc, ◌+◌, ◌-◌, ◌≤◌, ◌<◌}
use native.Mathlib.Omega.{arith}
use lib.ListN.{length, get_or, take}
use lib.Seq.{get_or-take}
use lib.Dec.{leb}
use borrow.Author.Tests.{lt-ltb, le-ltb, le-leb, lt-leb, leb-true}
use Rattle.syntax.specs.Limits.{unset, spans_length}
use Rattle.syntax.specs.Read.{byte}
use Rattle.semantics.specs.States.{moved}
use Rattle.semantics.specs.Items.{Tried, fails, goes, when, same_byte, same_at, refer, compared, paid_for}
use Rattle.machine.specs.declared.Machine.{Machine}
use Rattle.machine.specs.Code.{folded_of}
use Rattle.machine.specs.Moves.{Stack, Now, Move, paid, state, go, tested, price, fall, tried, move}
use Rattle.machine.specs.Words.{stack_of, configuration_of, now_of}
use Rattle.machine.specs.Ready.{Leads, Overruns}
use Rattle.machine.specs.Laws.Extent.{within}
use Rattle.machine.specs.Laws.Loop.{move-reference, leads-several}
use Rattle.machine.specs.Laws.Stack.{paid-after}
use Rattle.nodes.specs.declared.references.Compared.TheVariants.{Same, Unlike, TooMany}
use Rattle.nodes.specs.Comparing.{stands_again, ComparedAs}

-- Comparing -------------------------------------------------------------------------

module _ (folded : Bool) (sub : List ℕ) where
  compared-on : (m x y : ℕ) → y < length sub → same_byte folded (byte sub x) (byte sub y) ≡ true → compared folded sub (suc m) x y ≡ suc (compared folded sub m (suc x) (suc y))
  unfolding compared
  compared-on m x y h e = rw (lt-ltb y (length sub) h, e)

  compared-off : (m x y : ℕ) → y < length sub → same_byte folded (byte sub x) (byte sub y) ≡ false → compared folded sub (suc m) x y ≡ 1
  unfolding compared
  compared-off m x y h e = rw (lt-ltb y (length sub) h, e)

  compared-end : (m x y : ℕ) → length sub ≤ y → compared folded sub m x y ≡ 0
  unfolding compared
  compared-end zero x y h = refl
  compared-end (suc m) x y h = rw (le-ltb y (length sub) h)

  compared-some : (m x y : ℕ) → y < length sub → 1 ≤ compared folded sub (suc m) x y
  unfolding compared
  compared-some m x y h = rw (lt-ltb y (length sub) h) (omega arith)

  same-on : (m x y : ℕ) → same_byte folded (byte sub x) (byte sub y) ≡ true → same_at folded sub (suc m) x y ≡ same_at folded sub m (suc x) (suc y)
  unfolding same_at
  same-on m x y e = rw e

  same-off : (m x y : ℕ) → same_byte folded (byte sub x) (byte sub y) ≡ false → same_at folded sub (suc m) x y ≡ false
  unfolding same_at
  same-off m x y e = rw e

-- what two bytes that were read tell of the subject
pub read_same : (folded : Bool) (sub : List ℕ) (x y c d : ℕ) (r t : Bool) → c ≡ byte sub x → d ≡ byte sub y → r ≡ same_byte folded c d → not r ≡ t → same_byte folded (byte sub x) (byte sub y) ≡ not t
read_same folded sub x y c d r t e f g h = rw (← e, ← f) (sym g ∙ flip r h)
  where
    flip : (r : Bool) → not r ≡ t → r ≡ not t
    flip true h = rw (← h)
    flip false h = rw (← h)

and-false : (a b : Bool) → b ≡ false → (a && b) ≡ false
and-false true b e = e
and-false false b e = refl

module _ (folded : Bool) (sub : List ℕ) (n a b : ℕ) where
  -- the first i bytes are the same: what is left decides for the whole
  pub record Alike (i : ℕ) : Type 0 where
    pub few : i ≤ n
    pub count : compared folded sub n a b ≡ i + compared folded sub (n - i) (a + i) (b + i)
    pub same : same_at folded sub n a b ≡ same_at folded sub (n - i) (a + i) (b + i)

  pub alike-none : Alike 0
  alike-none =
      let e₀ : n - 0 ≡ n = omega arith in
      let e₁ : a + 0 ≡ a = omega arith in
      let e₂ : b + 0 ≡ b = omega arith in
      record { few = omega arith; count = rw (e₀, e₁, e₂) (omega arith); same = rw (e₀, e₁, e₂) }

  stands-long : length sub < b + n → stands_again folded sub n a b ≡ false
  stands-long h = rw (lt-leb (b + n) (length sub) h)

  module _ (left i : ℕ) (k : Alike i) where
    module _ (l : i < n) where
      one_more : n - i ≡ suc (n - suc i)
      one_more = omega arith

      module _ (h : b + i < length sub) where
        pub alike-more : same_byte folded (byte sub (a + i)) (byte sub (b + i)) ≡ true → Alike (i + 1)
        alike-more e =
            let e₀ : n - suc i ≡ n - (i + 1) = omega arith in
            let e₁ : suc (a + i) ≡ a + (i + 1) = omega arith in
            let e₂ : suc (b + i) ≡ b + (i + 1) = omega arith in
            let c = rw (one_more, compared-on folded sub (n - suc i) (a + i) (b + i) h e, e₀, e₁, e₂) at k.count in
            record { few = omega arith; count = omega (arith, c); same = rw (one_more, same-on folded sub (n - suc i) (a + i) (b + i) e, e₀, e₁, e₂) at k.same }

        pub unlike-byte : same_byte folded (byte sub (a + i)) (byte sub (b + i)) ≡ false → i + 1 < left → ComparedAs folded sub n a b left (Unlike (i + 1))
        unlike-byte e f =
            (and-false (leb (b + n) (length sub)) (same_at folded sub n a b) (k.same ∙ rw one_more (same-off folded sub (n - suc i) (a + i) (b + i) e)), rw (one_more, compared-off folded sub (n - suc i) (a + i) (b + i) h e) at k.count, f)

        pub too_many : left ≤ i + 1 → ComparedAs folded sub n a b left TooMany
        too_many f = let c = rw one_more at k.count in omega (arith, c, compared-some folded sub (n - suc i) (a + i) (b + i) h)

      pub unlike-end : length sub ≤ b + i → i < left → ComparedAs folded sub n a b left (Unlike i)
      unlike-end h f = let c = rw (compared-end folded sub (n - i) (a + i) (b + i) h) at k.count in (stands-long (omega arith), omega (arith, c), f)

    module _ (l : n ≤ i) (f : i < left) where
      all : i ≡ n
      all = omega (arith, k.few)

      none : n - i ≡ 0
      none = omega arith

      counted : compared folded sub n a b ≡ i
      unfolding compared
      counted = let c = rw none at k.count in omega (arith, c)

      pub unlike-past : length sub < b + i → ComparedAs folded sub n a b left (Unlike i)
      unlike-past h = (stands-long (omega (arith, all)), counted, f)

      pub all_same : b + i ≤ length sub → ComparedAs folded sub n a b left Same
      unfolding same_at
      all_same h = let e = rw none at k.same in (rw (le-leb (b + n) (length sub) (omega (arith, all)), e), counted ∙ all, omega (arith, all))

-- Its steps --------------------------------------------------------------------------

paid-long : (n : ℕ) (m : Move) → length (paid n m).more ≡ n + length m.more
unfolding paid
paid-long zero m = omega arith
paid-long (suc n) m = let h = paid-long n m in omega arith

-- A reference that is tried with the registers regs and the work area work, at m.
module _ (p sub regs work : List ℕ) (m : Machine) (left : ℕ) (is : get_or p m.pc 0 ≡ 11) (live : m.live ≡ true) (fit : get_or p (m.pc + 3) 0 + 2 ≤ spans_length) (room : spans_length ≤ length regs) where
  abbrev here : Now
  here = now_of regs work m

  abbrev stack : Stack
  stack = stack_of work m.height

  abbrev slot : ℕ
  slot = get_or p (m.pc + 3) 0

  abbrev folded : Bool
  folded = folded_of (get_or p (m.pc + 4) 0)

  abbrev from : ℕ
  from = get_or regs slot 0

  abbrev to : ℕ
  to = get_or regs (slot + 1) 0

  span-at : (i : ℕ) → i < slot + 2 → get_or (take spans_length regs) i unset ≡ get_or regs i 0
  span-at i h = get_or-take spans_length regs i unset (omega arith) ∙ within regs i unset 0 (omega arith)

  abbrev made : Tried → Move
  made y = paid (paid_for folded sub from to m.at) (tried p y (get_or p (m.pc + 2) 0) (get_or p (m.pc + 1) 0) m.at regs stack)

  moves : move p sub (configuration_of regs work m) ≡ made (refer folded sub from to (state m.at regs))
  unfolding price tested
  moves = rw (move-reference p sub (configuration_of regs work m) is, span-at slot (omega arith), span-at (slot + 1) (omega arith))

  led : (y : Tried) → refer folded sub from to (state m.at regs) ≡ y → Leads p sub here (suc (length (made y).more)) (made y).after
  led y e = rw live (leads-several p sub (configuration_of regs work m) (made y) (omega (arith, is)) (rw (← e) moves))

  module _ (k : ℕ) (paying : paid_for folded sub from to m.at ≡ k) where
    led-back : refer folded sub from to (state m.at regs) ≡ fails → Leads p sub here (1 + k) (fall p regs stack)
    unfolding tried
    led-back e = let z : 1 + k ≡ suc (k + 0) = omega arith in rw z (rw (paid-after, paid-long, paying) at (led fails e))

  -- its group is unset
  pub reference-unset : from ≡ unset → Leads p sub here 1 (fall p regs stack)
  unfolding paid_for refer when
  reference-unset e = led-back 0 (rw (le-ltb from unset (omega arith))) (rw (le-ltb from unset (omega arith)))

  module _ (n : ℕ) (long : n ≡ to - from) (given : from < unset) where
    pays : paid_for folded sub from to m.at ≡ compared folded sub n from m.at
    unfolding paid_for
    pays = rw (lt-ltb from unset given, long)

    pub reference-unlike : (k : ℕ) → ComparedAs folded sub n from m.at left (Unlike k) → Leads p sub here (1 + k) (fall p regs stack)
    unfolding refer when
    reference-unlike k w = led-back k (pays ∙ w.1) (rw (lt-ltb from unset given, ← long) (by (leb (m.at + n) (length sub)) (same_at folded sub n from m.at) w.0))
      where
        by : (a b : Bool) → (a && b) ≡ false → when a (when b (goes (moved (m.at + n) (state m.at regs)))) ≡ fails
        by true true e = let z : ◌≡◌ {A = ℕ} 0 1 = cc in absurd (omega arith)
        by true false e = refl
        by false b e = refl

    pub reference-same : ComparedAs folded sub n from m.at left Same → Leads p sub here (1 + n) (go (get_or p (m.pc + 1) 0) (m.at + n) regs stack)
    unfolding refer when tried moved
    reference-same w =
        let z : 1 + n ≡ suc (n + 0) = omega arith in
        rw z (rw (paid-after, paid-long, pays, w.1) at (led (goes (moved (m.at + n) (state m.at regs))) (rw (lt-ltb from unset given, ← long) (by (leb (m.at + n) (length sub)) (same_at folded sub n from m.at) w.0))))
      where
        by : (a b : Bool) → (a && b) ≡ true → when a (when b (goes (moved (m.at + n) (state m.at regs)))) ≡ goes (moved (m.at + n) (state m.at regs))
        by true true e = refl
        by true false e = let z : ◌≡◌ {A = ℕ} 0 1 = cc in absurd (omega arith)
        by false b e = let z : ◌≡◌ {A = ℕ} 0 1 = cc in absurd (omega arith)

    -- the position behind it is within the subject
    pub reference-inside : ComparedAs folded sub n from m.at left Same → m.at + n ≤ length sub
    reference-inside w = by (leb (m.at + n) (length sub)) refl w.0
      where
        by : (a : Bool) → leb (m.at + n) (length sub) ≡ a → (a && same_at folded sub n from m.at) ≡ true → m.at + n ≤ length sub
        by true q e = leb-true (m.at + n) (length sub) q
        by false q e = let z : ◌≡◌ {A = ℕ} 0 1 = cc in absurd (omega arith)

    pub reference-long : ComparedAs folded sub n from m.at left TooMany → Overruns p sub here left
    reference-long w =
        let y = refer folded sub from to (state m.at regs) in
        (suc (length (made y).more), (made y).after, rw (paid-long, pays) (omega (arith, w)), led y refl)
