-- A repeat's decision, in the order in which the code tests. Assumes nothing.
use mathlib.Core.Path.{◌≡◌, refl, ap}
use mathlib.Core.List.{List, ◌∷◌}
use mathlib.Core.Bool.{Bool, true, false}
use Prim.Native.Nat.{ℕ, zero, suc, ◌+◌, ◌≤◌, ◌<◌}
use native.Mathlib.Omega.{arith}
use lib.ListN.{get_or}
use lib.Dec.{leb, eqb}
use borrow.Author.Tests.{lt-ltb, le-ltb, eq-eqb, ne_eqb}
use Rattle.syntax.specs.declared.Greed.{Greed}
use Rattle.syntax.specs.declared.Greed.TheVariants.{Greedy, Lazy}
use Rattle.syntax.specs.Limits.{unset}
use Rattle.semantics.specs.Repeats.{either, is_full, allowed, decision}
use Rattle.machine.specs.declared.Counter.{Counter}
use Rattle.machine.specs.Code.{Program, pick_most, most_of, greed_of, repeat_at}
use Rattle.machine.specs.Moves.{explore, again, Stack, go, go_set, begin, bump, decided, decides}
use Rattle.machine.specs.Words.{Counted}

pub full-unlimited : (most n : ℕ) → most ≡ unset → false ≡ is_full (most_of most) n
unfolding most_of is_full pick_most
full-unlimited most n e = rw (eq-eqb most unset e)

pub full-limited : (most n : ℕ) → (most ≡ unset → ⊥) → leb most n ≡ is_full (most_of most) n
unfolding most_of is_full pick_most
full-limited most n x = rw (ne_eqb most unset x)

is-greedy : (k : ℕ) → k ≡ 0 → greed_of k ≡ Greedy
unfolding greed_of
is-greedy zero x = refl
is-greedy (suc k) x = absurd (omega arith)

is-lazy : (k : ℕ) → (k ≡ 0 → ⊥) → greed_of k ≡ Lazy
unfolding greed_of
is-lazy zero x = absurd (x refl)
is-lazy (suc k) x = refl

-- a round begins by the repeat's register and body
pub begins-as : (p : Program) (q n at register body : ℕ) (regs : List ℕ) (st : Stack) → register ≡ get_or p (q + 3) 0 → body ≡ get_or p (q + 4) 0 → go_set register n at body at regs st ≡ begin (repeat_at p q) n at regs st
unfolding begin repeat_at
begins-as p q n at register body regs st e f = rw (e, f)

-- a round is over, by what the repeat's registers have
pub ends_as : (p : Program) (q at : ℕ) (regs : List ℕ) (st : Stack) (k : Counter) → k.register ≡ get_or p (q + 3) 0 → Counted regs k
    → decides p q k.rounds (eqb k.from at) at regs st ≡ decides p q (get_or regs (repeat_at p q).register 0) (eqb (get_or regs ((repeat_at p q).register + 1) 0) at) at regs st
unfolding repeat_at
ends_as p q at regs st k e f = rw (f.0, f.1, e)

module _ (p : Program) (q n at : ℕ) (regs : List ℕ) (st : Stack) (still : Bool) where
  pub decides-round : n < get_or p q 0 → decides p q n still at regs st ≡ begin (repeat_at p q) (bump n) at regs st
  unfolding decides decided decision allowed repeat_at
  decides-round h = rw (lt-ltb n (get_or p q 0) h)

  module _ (h : get_or p q 0 ≤ n) where
    pub decides-full : is_full (most_of (get_or p (q + 1) 0)) n ≡ true → decides p q n still at regs st ≡ go (get_or p (q + 5) 0) at regs st
    unfolding decides decided decision allowed repeat_at
    decides-full e = rw (le-ltb n (get_or p q 0) h, e)

    module _ (e : is_full (most_of (get_or p (q + 1) 0)) n ≡ false) where
      pub decides-still : still ≡ true → decides p q n still at regs st ≡ go (get_or p (q + 5) 0) at regs st
      unfolding decides decided decision allowed repeat_at
      decides-still f = rw (le-ltb n (get_or p q 0) h, e, f)

      module _ (f : still ≡ false) where
        pub decides-both : decides p q n still at regs st ≡ decided p (either (greed_of (get_or p (q + 2) 0))) q n at regs st
        unfolding decides decision allowed repeat_at
        decides-both = rw (le-ltb n (get_or p q 0) h, e, f)

module _ (p : Program) (q n at : ℕ) (regs : List ℕ) (st : Stack) where
  pub both-greedy : get_or p (q + 2) 0 ≡ 0 → decided p (either (greed_of (get_or p (q + 2) 0))) q n at regs st ≡ begin (repeat_at p q) (bump n) at regs (explore (get_or p (q + 5) 0) at ∷ st)
  unfolding decided repeat_at
  both-greedy g = ap (λ (x : Greed). decided p (either x) q n at regs st) (is-greedy (get_or p (q + 2) 0) g)

  pub both-lazy : (get_or p (q + 2) 0 ≡ 0 → ⊥) → decided p (either (greed_of (get_or p (q + 2) 0))) q n at regs st ≡ go (get_or p (q + 5) 0) at regs (again q (bump n) at ∷ st)
  unfolding decided repeat_at
  both-lazy g = ap (λ (x : Greed). decided p (either x) q n at regs st) (is-lazy (get_or p (q + 2) 0) g)
