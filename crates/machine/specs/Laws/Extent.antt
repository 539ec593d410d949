-- A greedy repeat of one byte item, as the walk has it, round by round; and how many bytes a run takes.
use Rattle.std.specs.Prelude.{◌≡◌, ◌⊎◌, Bool, ◌&&◌, get_or}
use Rattle.std.proofs.Math.Path.{refl}
use Rattle.std.proofs.Common.{ap, arith}
use Rattle.std.proofs.Math.Logic.{inl, inr}
use mathlib.Core.List.{List, [], ◌∷◌, ◌++◌, append-nil}
use Rattle.std.proofs.Math.Bool.{true, false}
use Prim.Native.Nat.{ℕ, zero, suc, ◌-◌, ◌≤◌, ◌<◌}
use Rattle.std.proofs.Math.ListN.{length}
use Rattle.std.proofs.Math.Dec.{ltb}
use borrow.Author.Tests.{ltb-true, leb-true, leb-false, lt-ltb, le-ltb, lt-leb, ne_eqb}
use Rattle.syntax.specs.declared.Greed.TheVariants.{Greedy}
use Rattle.syntax.specs.declared.Most.{Most}
use Rattle.syntax.specs.declared.Most.TheVariants.{AtMost, Unlimited}
use Rattle.syntax.specs.Read.{byte}
use Rattle.syntax.specs.Sets.{Class, in_class}
use Rattle.syntax.specs.Tree.{byte_in, item}
use Rattle.syntax.specs.WellFormed.{BoundsFit}
use Rattle.semantics.specs.States.{again, go_on, State, chose, moved}
use Rattle.semantics.specs.Items.{fails, goes, when, toll, try}
use Rattle.semantics.specs.Repeats.{is_full, allowed, decision}
use Rattle.semantics.specs.Walk.{step, miss, Trace, Go, ◌▹◌, done, tried, paying, decide, rounds, walk}
use Rattle.semantics.proofs.Laws.Traces.{bind-append, bind_done}
use Rattle.machine.specs.Code.{in_set}
use Rattle.machine.specs.Moves.{Bytes, tested, takes, one_more, extent, allowance}

-- within a list the default does not matter
pub within : (l : List ℕ) (i d e : ℕ) → i < length l → get_or l i d ≡ get_or l i e
within [] i d e h = absurd (omega arith)
within (x ∷ l) zero d e h = refl
within (x ∷ l) (suc i) d e h = within l i d e (omega arith)

pub byte-in : (sub : List ℕ) (i : ℕ) → i < length sub → get_or sub i 0 ≡ byte sub i
unfolding byte
byte-in sub i h = within sub i 0 256 h

pub byte_small : (sub : List ℕ) → Bytes sub → (i : ℕ) → i < length sub → byte sub i < 256
unfolding byte
byte_small [] bytes i h = absurd (omega arith)
byte_small (b ∷ sub) bytes zero h = bytes 0
byte_small (b ∷ sub) bytes (suc i) h = byte_small sub (λ j. bytes (suc j)) i (omega arith)

-- How many bytes ----------------------------------------------------------------

clash : ◌≡◌ {A = ℕ} 0 1 → ⊥
clash e = omega arith

pub takes-inside : (sub : List ℕ) (f : ℕ → Bool) (at : ℕ) → takes sub f at ≡ true → at < length sub
unfolding takes
takes-inside sub f at e = by (ltb at (length sub)) refl e
  where
    by : (b : Bool) → ltb at (length sub) ≡ b → (b && f (byte sub at)) ≡ true → at < length sub
    by true x y = ltb-true at (length sub) x
    by false x y = absurd (clash (cc))

pub takes-here : (sub : List ℕ) (f : ℕ → Bool) (i : ℕ) → i < length sub → takes sub f i ≡ f (get_or sub i 0)
unfolding takes
takes-here sub f i h = rw (lt-ltb i (length sub) h, byte-in sub i h)

pub takes-past : (sub : List ℕ) (f : ℕ → Bool) (i : ℕ) → length sub ≤ i → takes sub f i ≡ false
unfolding takes
takes-past sub f i h = rw (le-ltb i (length sub) h)

-- an item of one byte, tried
module _ (sub : List ℕ) (f : ℕ → Bool) (s : State) where
  pub tested-none : takes sub f s.at ≡ false → tested sub (in_set f) s ≡ fails
  unfolding tested takes when
  tested-none e = by (ltb s.at (length sub)) (f (byte sub s.at)) e
    where
      by : (a b : Bool) → (a && b) ≡ false → when a (when b (goes (moved (suc s.at) s))) ≡ fails
      by true true e = absurd (clash (cc))
      by true false e = refl
      by false b e = refl

  pub tested-one : takes sub f s.at ≡ true → tested sub (in_set f) s ≡ goes (moved (suc s.at) s)
  unfolding tested takes when
  tested-one e = by (ltb s.at (length sub)) (f (byte sub s.at)) e
    where
      by : (a b : Bool) → (a && b) ≡ true → when a (when b (goes (moved (suc s.at) s))) ≡ goes (moved (suc s.at) s)
      by true true e = refl
      by true false e = absurd (clash (cc))
      by false b e = absurd (clash (cc))

-- a repeat that owes rounds is not full
pub owed-room : (least : ℕ) (most : Most) (n : ℕ) → BoundsFit least most → n < least → is_full most n ≡ false
unfolding is_full
owed-room least (AtMost m) n h l = lt-leb m n (omega (arith, h.0))
owed-room least Unlimited n h l = refl

module _ (sub : List ℕ) (f : ℕ → Bool) where
  pub extent-none : (limit at : ℕ) → takes sub f at ≡ false → extent sub f limit at ≡ 0
  unfolding extent one_more
  extent-none zero at e = refl
  extent-none (suc limit) at e = rw e

  pub extent-on : (limit at : ℕ) → takes sub f at ≡ true → extent sub f (suc limit) at ≡ suc (extent sub f limit (suc at))
  unfolding extent one_more
  extent-on limit at e = rw e

  pub extent-full : (most : Most) (n at : ℕ) → is_full most n ≡ true → extent sub f (allowance most n (length sub - at)) at ≡ 0
  unfolding extent allowance is_full
  extent-full (AtMost m) n at e = let z : m - n ≡ 0 = omega (arith, leb-true m n e) in rw z
  extent-full Unlimited n at e = absurd (clash (cc))

  pub extent-more : (most : Most) (n at : ℕ) → is_full most n ≡ false → takes sub f at ≡ true
      → extent sub f (allowance most n (length sub - at)) at ≡ suc (extent sub f (allowance most (suc n) (length sub - suc at)) (suc at))
  unfolding allowance is_full
  extent-more (AtMost m) n at e t = let z : m - n ≡ suc (m - suc n) = omega (arith, leb-false m n e) in rw z (extent-on (m - suc n) at t)
  extent-more Unlimited n at e t = let z : length sub - at ≡ suc (length sub - suc at) = omega (arith, takes-inside sub f at t) in rw z (extent-on (length sub - suc at) at t)

  -- with a smaller limit: as many, or as many as that limit allows
  pub extent-cut : (less limit at : ℕ) → less ≤ limit → (extent sub f less at ≡ extent sub f limit at) ⊎ ((extent sub f less at ≡ less) × (less ≤ extent sub f limit at))
  unfolding extent one_more
  extent-cut zero limit at h = inr (refl, omega arith)
  extent-cut (suc less) zero at h = absurd (omega arith)
  extent-cut (suc less) (suc limit) at h = by (takes sub f at) (extent-cut less limit (suc at) (omega arith))
    where
      by : (b : Bool) → (extent sub f less (suc at) ≡ extent sub f limit (suc at)) ⊎ ((extent sub f less (suc at) ≡ less) × (less ≤ extent sub f limit (suc at)))
          → (one_more b (extent sub f less (suc at)) ≡ one_more b (extent sub f limit (suc at))) ⊎ ((one_more b (extent sub f less (suc at)) ≡ suc less) × (suc less ≤ one_more b (extent sub f limit (suc at))))
      by true (inl e) = inl (ap suc e)
      by true (inr e) = inr (ap suc e.0, omega (arith, e.1))
      by false e = inl refl

-- The walk ------------------------------------------------------------------------

module _ (sub : List ℕ) (bytes : Bytes sub) (folded : Bool) (c : Class) (f : ℕ → Bool) (same : (x : ℕ) → x < 256 → f x ≡ in_class folded c x) where
  try-as : (s : State) → try sub (byte_in folded c) s ≡ when (takes sub f s.at) (goes (moved (suc s.at) s))
  unfolding try takes when
  try-as s = by (ltb s.at (length sub)) refl
    where
      by : (b : Bool) → ltb s.at (length sub) ≡ b
          → when b (when (in_class folded c (byte sub s.at)) (goes (moved (suc s.at) s))) ≡ when (b && f (byte sub s.at)) (goes (moved (suc s.at) s))
      by true x = rw (same (byte sub s.at) (byte_small sub bytes s.at (ltb-true s.at (length sub) x)))
      by false x = refl

  module _ (place : ℕ) (R k : Go) (t : State) where
    body-hit : takes sub f t.at ≡ true → (walk sub (item place (byte_in folded c)) t ▹ R) ▹ k ≡ step ∷ (R (moved (suc t.at) t) ▹ k)
    unfolding walk toll paying tried when done ◌▹◌
    body-hit e = rw (try-as t, e, append-nil (R (moved (suc t.at) t)))

    body-miss : takes sub f t.at ≡ false → (walk sub (item place (byte_in folded c)) t ▹ R) ▹ k ≡ miss place t.at ∷ []
    unfolding walk toll paying tried when ◌▹◌
    body-miss e = rw (try-as t, e)

  module _ (place least : ℕ) (most : Most) (k : Go) (fuel n : ℕ) (s : State) where
    abbrev from : ℕ → ℕ → State → Trace
    from d m t = rounds (walk sub (item place (byte_in folded c))) least most Greedy d m false t ▹ k

    pub owed-hit : n < least → takes sub f s.at ≡ true → from (suc fuel) n s ≡ step ∷ step ∷ from fuel (suc n) (moved (suc s.at) s)
    unfolding rounds decide decision allowed ◌▹◌ moved
    owed-hit l e = rw (lt-ltb n least l, body-hit place _ k s e, ne_eqb s.at (suc s.at) (omega arith))

    pub owed-miss : n < least → takes sub f s.at ≡ false → from (suc fuel) n s ≡ step ∷ miss place s.at ∷ []
    unfolding rounds decide decision allowed ◌▹◌
    owed-miss l e = rw (lt-ltb n least l, body-miss place _ k s e)

    module _ (l : least ≤ n) where
      pub at_most : is_full most n ≡ true → from (suc fuel) n s ≡ step ∷ k s
      unfolding rounds decide decision allowed ◌▹◌
      at_most x = rw (le-ltb n least l, x, bind_done s k)

      pub both-hit : is_full most n ≡ false → takes sub f s.at ≡ true → from (suc fuel) n s ≡ step ∷ step ∷ (from fuel (suc n) (moved (suc s.at) (chose (again Greedy) s)) ++ k (chose (go_on Greedy) s))
      unfolding rounds decide decision allowed ◌▹◌ moved chose
      both-hit x e = rw (le-ltb n least l, x, bind-append, body-hit place _ k (chose (again Greedy) s) e, bind_done, ne_eqb s.at (suc s.at) (omega arith))

      pub both-miss : is_full most n ≡ false → takes sub f s.at ≡ false → from (suc fuel) n s ≡ step ∷ miss place s.at ∷ k (chose (go_on Greedy) s)
      unfolding rounds decide decision allowed ◌▹◌ chose
      both-miss x e = rw (le-ltb n least l, x, bind-append, body-miss place _ k (chose (again Greedy) s) e, bind_done)
