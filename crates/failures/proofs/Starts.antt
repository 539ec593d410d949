-- The invariant of the loop over all starts: each walk is plain, and the best is that of the failures of the walks before.
use Rattle.std.specs.Prelude as option
use Rattle.std.specs.Prelude.{None, unwrap_or}
use mathlib.Core.Path.{◌≡◌, refl, ap, sym, ◌∙◌, subst}
use mathlib.Core.List.{List, [], ◌++◌}
use mathlib.Core.Option.{Option, none}
use Prim.Native.Nat.{ℕ, suc, ◌+◌, ◌*◌, ◌^◌, ◌≤◌, ◌<◌}
use native.Mathlib.Omega.{arith}
use native.Mathlib.Numerals.{add-one}
use lib.ListN.{length}
use Rattle.syntax.specs.Limits.{unset}
use Rattle.syntax.specs.Tree.{Rule}
use Rattle.semantics.specs.Walk.{Trace, trace}
use Rattle.semantics.specs.Explanations.{Failure, failed, failed_from, failures, greatest, position}
use Rattle.semantics.proofs.Laws.Failures.{failed_from-next}
use Rattle.semantics.proofs.Laws.Misses.{miss-inside}
use Rattle.machine.specs.Moves.{Bytes, go}
use Rattle.machine.specs.Theorem.{Stands, Clear}
use Rattle.plain.specs.Telling.{hears_all}
use Rattle.greatest.specs.declared.greatest.Best.{Best}
use Rattle.plain.specs.declared.Miss.{Miss}
use Rattle.failures.specs.Accounts.{bests}
use Rattle.greatest.specs.Leading.{kept_of, listed}
use Rattle.greatest.specs.Best.{Blank, Keeps, Finds}
use Rattle.failures.specs.Walks.{Plain, Fruitless}
use Rattle.greatest.specs.Laws.Best.{keeps-none, keeps-more, keeps-finds, keeps-start, walk-since}
use Rattle.failures.specs.Laws.Accounts.{bests-all}
use Rattle.failures.specs.Laws.Walks.{plain-begins}

module _ (p sub regs₀ work₀ : List ℕ) (entry budget : ℕ) (best₀ : option.Option Best) where
  pub record Walked (regs work : List ℕ) (best : option.Option Best) (begin : ℕ) : Type 0 where
    pub same : regs ≡ regs₀
    pub wide : length work ≡ length work₀
    pub few : begin ≤ suc (length sub)
    pub keeps : (x : Rule) → Stands p x entry → Keeps best₀ (failed_from (trace sub x) 0 begin) best

  pub walked_start : Walked regs₀ work₀ best₀ 0
  unfolding failed_from
  walked_start = record { same = refl; wide = refl; few = omega arith; keeps = λ x s. keeps-none best₀ }

module _ {p sub regs₀ work₀ : List ℕ} {entry budget : ℕ} {best₀ : option.Option Best} {regs work : List ℕ} {best : option.Option Best} {begin : ℕ} (g : Walked p sub regs₀ work₀ entry budget best₀ regs work best begin) where
  pub walked_all : best₀ ≡ None → (n : Best) → Blank n → length sub < begin → (x : Rule) → Stands p x entry → Finds (failures sub x) (unwrap_or best n)
  unfolding failures
  walked_all none_yet n b h x s =
      let e : begin ≡ suc (length sub) = omega (arith, g.few) in
      keeps-finds (failed_from (trace sub x) 0 (suc (length sub))) n best b (rw (none_yet, e) at (g.keeps x s))

  module _ (bytes : Bytes sub) (clear : Clear regs₀) (room : 8 * budget ≤ length work₀) (small : 2 * budget < 2 ^ 32) (none_end : (x : Rule) → Stands p x entry → Fruitless sub x budget) (h : begin ≤ length sub) where
    pub walked-plain : (x : Rule) → Stands p x entry → Plain p sub (bests begin) (hears_all (bests begin) none (trace sub x begin)) (length work) budget regs none (go entry begin regs []) (trace sub x begin)
    walked-plain x s = plain-begins p sub (bests begin) x entry begin budget (length work) regs none s bytes (rw g.same clear) (none_end x s) h (omega (arith, g.wide)) small

    module _ (short : length sub < 2147483648) where
      -- what is kept of the walk is the first of its greatest failures
      kept-greatest : (x : Rule) → hears_all (bests begin) none (trace sub x begin) ≡ greatest position none (failed begin (trace sub x begin))
      unfolding unset
      kept-greatest x = bests-all begin none (trace sub x begin) (λ place at i. (let z = miss-inside sub x begin h place at i in omega (arith, z.1)))

      pub walked_on : (x : Rule) → Stands p x entry → {regs' work' : List ℕ} {best' : option.Option Best} (k : option.Option Miss)
          → ((first : List ℕ) (t : Trace) (final : Option Failure) → Plain p sub (bests begin) final (length work) budget first none (go entry begin regs []) t → (regs' ≡ first) × (kept_of begin k ≡ final))
          → Keeps best (listed (kept_of begin k)) best' → length work' ≡ length work → Walked p sub regs₀ work₀ entry budget best₀ regs' work' best' (begin + 1)
      walked_on tree stands {regs'} {work'} {best'} k did considered w = record {
        same = (did regs (trace sub tree begin) _ (walked-plain tree stands)).0 ∙ g.same;
        wide = w ∙ g.wide;
        few = omega arith;
        keeps = λ x s. subst (λ (l : List Failure). Keeps best₀ l best') (sym (one_more x)) (keeps-more (failed_from (trace sub x) 0 begin) (failed begin (trace sub x begin)) (g.keeps x s) (all x s));
      }
        where
          one_more : (x : Rule) → failed_from (trace sub x) 0 (begin + 1) ≡ failed_from (trace sub x) 0 begin ++ failed begin (trace sub x begin)
          one_more x =
              let z : 0 + begin ≡ begin = omega arith in
              ap (failed_from (trace sub x) 0) (add-one begin) ∙ failed_from-next (trace sub x) 0 begin ∙ ap (λ (n : ℕ). failed_from (trace sub x) 0 begin ++ failed n (trace sub x n)) z

          all : (x : Rule) → Stands p x entry → Keeps best (failed begin (trace sub x begin)) best'
          all x s =
              keeps-start begin (failed begin (trace sub x begin)) best best' (walk-since begin (trace sub x begin) (λ place at i. (miss-inside sub x begin h place at i).0))
              (subst (λ (o : Option Failure). Keeps best (listed o) best') ((did regs (trace sub x begin) _ (walked-plain x s)).1 ∙ kept-greatest x) considered)
