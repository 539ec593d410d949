-- The loop over the starts: what is left of them makes the answer that all of them make. One law for each thing that a run can tell of a start's walk.
use mathlib.Core.Path.{◌≡◌, refl, ◌∙◌}
use mathlib.Core.List.{List, []}
use Prim.Native.Nat.{ℕ, ◌+◌, ◌*◌, ◌-◌, ◌≤◌, ◌<◌}
use native.Mathlib.Omega.{arith}
use lib.ListN.{length}
use Rattle.syntax.specs.Tree.{Rule}
use Rattle.semantics.specs.Walk.{Trace, trace}
use Rattle.semantics.specs.Answers.{Answer}
use Rattle.machine.specs.declared.Machine.{Machine}
use Rattle.machine.specs.declared.Stop.{Stop}
use Rattle.machine.specs.declared.Stop.TheVariants.{End, Nothing, Spent}
use Rattle.machine.specs.Moves.{go}
use Rattle.machine.specs.Ready.{until, Ready, Agrees}
use Rattle.machine.specs.Theorem.{Stands, at-end, at-nothing, at-spent}
use Rattle.openings.specs.declared.Opening.{Opening}
use Rattle.skipping.specs.Passing.{Passed}
use Rattle.seeking.specs.declared.Sought.{Sought}
use Rattle.seeking.specs.declared.Sought.TheVariants.{Found, Nothing as Missed, Spent as Cut}
use Rattle.seeking.specs.Starts.{Seeks, Near, Answers}
use Rattle.seeking.specs.Laws.Starts.{Lent, lent-ready, seeks-end, seeks-spent, seeks-pass, seeks-from, near-from}

module _ (p sub r₀ w₀ : List ℕ) (entry budget : ℕ) (o : Opening) (first before : ℕ) where
  -- before the start `begin`, with these steps taken
  pub record Seeking (r w : List ℕ) (begin steps : ℕ) : Type 0 where
    pub lent : Lent p sub r₀ w₀ entry budget o
    pub same : r ≡ r₀
    pub wide : length w ≡ length w₀
    pub near : Near sub begin steps
    pub seeks : (x : Rule) (a : Answer) → Stands p x entry → Seeks sub x budget a before first → Seeks sub x budget a steps begin

  -- what is told answers what the starts from the first on make
  abbrev pub Tells : List ℕ → Sought → Type 0
  Tells r s = (x : Rule) (a : Answer) → Stands p x entry → Seeks sub x budget a before first → Answers r s a

  pub seeking-start : Lent p sub r₀ w₀ entry budget o → Near sub first before → Seeking r₀ w₀ first before
  seeking-start l n = record { lent = l; same = refl; wide = refl; near = n; seeks = λ x a st h. h }

module _ {p sub r₀ w₀ : List ℕ} {entry budget : ℕ} {o : Opening} {first before : ℕ} {r w : List ℕ} {begin steps : ℕ} (g : Seeking p sub r₀ w₀ entry budget o first before r w begin steps) where
  pub seeking-none : length sub < begin → Tells p sub r₀ w₀ entry budget o first before r (Missed steps)
  seeking-none h x a st s = (g.seeks x a st s).none h

  module _ (h : begin ≤ length sub) where
    pub seeking-ready : (x : Rule) → Stands p x entry → Ready p sub (length w) budget r (go entry begin r []) (trace sub x begin)
    seeking-ready x st = rw g.same (lent-ready g.lent x st begin (length w) g.wide h)

    module _ {stop : Stop} {r' w' : List ℕ} (done : (first : List ℕ) (t : Trace) → Ready p sub (length w) budget first (go entry begin r []) t → Agrees p sub (length w) budget first r' w' (until budget 0 t) stop) where
      agrees : (x : Rule) → Stands p x entry → Agrees p sub (length w) budget r r' w' (until budget 0 (trace sub x begin)) stop
      agrees x st = done r (trace sub x begin) (seeking-ready x st)

      pub seeking-end : (used : ℕ) (e : Machine) → stop ≡ End used e → Tells p sub r₀ w₀ entry budget o first before r' (Found begin e.at (steps + used))
      seeking-end used e q x a st s =
          let z = at-end (rw q at (agrees x st)) in
          record { state = z.0; is = seeks-end (g.seeks x a st s) h used z.0 z.1 z.2; at = z.3.at; spans = z.3.spans }

      pub seeking-spent : stop ≡ Spent → Tells p sub r₀ w₀ entry budget o first before r' (Cut begin (steps + budget))
      seeking-spent q x a st s = seeks-spent (g.seeks x a st s) h (at-spent (rw q at (agrees x st)))

      -- on to the next start that may begin
      pub seeking-on : (used : ℕ) → stop ≡ Nothing used → length w' ≡ length w → (from : ℕ) → Passed o.set o.any sub o.cost (begin + 1) from
          → Seeking p sub r₀ w₀ entry budget o first before r' w' from (steps + used + (from - (begin + 1)) * o.cost)
      seeking-on used q wide' from passed =
          let z = at-nothing (rw q at (agrees g.lent.held.tree g.lent.held.stands)) in
          record {
            lent = g.lent;
            same = z.2 ∙ g.same;
            wide = wide' ∙ g.wide;
            near = near-from g.lent (begin + 1) from (steps + used) passed (record { few = omega arith; small = omega (arith, g.near.small, z.1, g.lent.budget_small) });
            seeks = λ x a st s. seeks-from g.lent (begin + 1) from (steps + used) passed st (omega arith) (seeks-pass (g.seeks x a st s) h used (at-nothing (rw q at (agrees x st))).0);
          }
