-- The first try of a search: what is left of its walk, in which barred ends are plain steps, answers what the search does. One law for each thing that
-- a run can tell.
use mathlib.Core.Path.{◌≡◌, refl, sym, ◌∙◌, subst}
use mathlib.Core.List.{List, [], ◌∷◌, append-nil}
use mathlib.Core.Bool.{Bool, true, false}
use Prim.Native.Nat.{ℕ, suc, ◌+◌, ◌-◌, ◌*◌, ◌≤◌, ◌<◌}
use native.Mathlib.Omega.{arith}
use lib.ListN.{length, take}
use Rattle.syntax.specs.Limits.{budget_limit, spans_length}
use Rattle.syntax.specs.Tree.{Rule}
use Rattle.semantics.specs.States.{State}
use Rattle.semantics.specs.Walk.{end, Trace, trace}
use Rattle.semantics.specs.Answers.{exhausted}
use Rattle.semantics.specs.Scans.{barring, search_from}
use Rattle.semantics.proofs.Laws.Cases.{clash}
use Rattle.semantics.proofs.Laws.ScanLoops.{TryAt, try-begin, try-over, try-quiet, try-barred, try-end}
use Rattle.machine.specs.declared.Machine.{Machine}
use Rattle.machine.specs.declared.Stop.{Stop}
use Rattle.machine.specs.declared.Stop.TheVariants.{End, Nothing, Spent}
use Rattle.machine.specs.Moves.{Bytes, Now, go, fall}
use Rattle.machine.specs.Words.{stack_of}
use Rattle.machine.specs.Ready.{until, StackFits, Ready, Agrees}
use Rattle.machine.specs.Theorem.{Stands, Clear, begins, at-end, at-nothing, at-spent}
use Rattle.machine.specs.Laws.Loop.{until-ended, until-nothing, until-spent}
use Rattle.searching.specs.Tries.{Tried}

-- with so many steps left, the machine is ready to go on, and so is the try
pub record Trying (p sub : List ℕ) (x : Rule) (budget from : ℕ) (barred : Bool) (first : List ℕ) (wide : ℕ) (now : Now) (left : ℕ) : Type 0 where
  pub rest : Trace
  pub ready : Ready p sub wide left first now rest
  pub tried : TryAt sub x budget from barred (budget - left) left rest
  pub few : left ≤ budget

pub trying_start : {p sub : List ℕ} {x : Rule} {entry : ℕ} (budget from : ℕ) (barred : Bool) (wide : ℕ) (regs : List ℕ) → Stands p x entry → Bytes sub → Clear regs → from ≤ length sub → 8 * budget ≤ wide → budget ≤ budget_limit → {now : Now} → now ≡ go entry from regs [] → Trying p sub x budget from barred regs wide now budget
unfolding budget_limit
trying_start {p} {sub} {x} {entry} budget from barred wide regs st bytes clear inside fits few e =
    let z : budget - budget ≡ 0 = omega arith in
    record { rest = trace sub x from; ready = rw e (begins p sub x entry from budget wide regs st bytes clear inside fits (omega arith)); tried = rw z (try-begin sub x budget from barred); few = omega arith }

module _ {p sub : List ℕ} {x : Rule} {budget from : ℕ} {barred : Bool} {first : List ℕ} {wide : ℕ} {now : Now} {left : ℕ} (g : Trying p sub x budget from barred first wide now left) {o : Stop} {regs work : List ℕ} (done : (f : List ℕ) (t : Trace) → Ready p sub wide left f now t → Agrees p sub wide left f regs work (until left 0 t) o) where
  agrees : Agrees p sub wide left first regs work (until left 0 g.rest) o
  agrees = done first g.rest g.ready

  -- the steps are spent
  pub trying-spent : o ≡ Spent → search_from sub x budget from barred ≡ record { outcome = exhausted from; steps = budget }
  trying-spent e =
      let z = until-spent g.rest left 0 (at-spent (rw e at agrees)) in
      let q = z.0 in
      let t = try-quiet sub x budget from barred (budget - left) left q (z.1 ∷ z.2) z.3 (omega (arith, z.5)) (subst (λ (u : Trace). TryAt sub x budget from barred (budget - left) left u) z.4 g.tried) in
      let none : left - length q ≡ 0 = omega (arith, z.5) in
      let all : budget - left + length q ≡ budget = omega (arith, z.5, g.few) in
      rw all at (try-over sub x budget from barred (budget - left + length q) z.1 z.2 (rw none at t))

  -- nothing is left
  pub trying-few : (used : ℕ) → o ≡ Nothing used → used ≤ left
  trying-few used e = (at-nothing (rw e at agrees)).1

  pub trying-nothing : (used : ℕ) → o ≡ Nothing used → Tried sub x budget from barred first regs (Nothing (budget - (left - used)))
  unfolding barring
  trying-nothing used e =
      let a = at-nothing (rw e at agrees) in
      let z = until-nothing g.rest left 0 used a.0 in
      let t = try-quiet sub x budget from barred (budget - left) left g.rest [] z.0 z.2 (subst (λ (u : Trace). TryAt sub x budget from barred (budget - left) left u) (sym (append-nil g.rest)) g.tried) in
      let s : budget - left + length g.rest ≡ budget - (left - used) = omega (arith, z.1, z.2, g.few) in
      let b : left - length g.rest ≡ budget - (budget - (left - used)) = omega (arith, z.1, z.2, g.few) in
      (omega arith, a.2, rw (s, b) at t)

  -- an end is reached
  pub record Met (used : ℕ) (e : Machine) : Type 0 where
    pub some : 0 < used
    pub enough : used ≤ left
    pub low : 4 * e.height ≤ wide
    pub fits : StackFits p (stack_of work e.height)
    pub state : State
    pub rest : Trace
    pub at : state.at ≡ e.at
    pub spans : state.spans ≡ take spans_length regs
    pub steps : ℕ
    pub tried : TryAt sub x budget from barred steps (suc (left - used)) (end state ∷ rest)
    pub paid : suc steps ≡ budget - (left - used)
    pub ready : Ready p sub wide (left - used) first (fall p regs (stack_of work e.height)) rest

  pub trying-end : (used : ℕ) (e : Machine) → o ≡ End used e → Met used e
  trying-end used e q =
      let a = at-end (rw q at agrees) in
      let s = a.0 in
      let r = a.3 in
      let z = until-ended g.rest left 0 used s a.1 a.2 in
      let k = z.0 in
      let t = try-quiet sub x budget from barred (budget - left) left k (end s ∷ a.1) z.1 (omega (arith, z.3, z.4)) (subst (λ (u : Trace). TryAt sub x budget from barred (budget - left) left u) z.2 g.tried) in
      let one : left - length k ≡ suc (left - used) = omega (arith, z.3, z.4) in
      record {
        some = omega (arith, z.3);
        enough = r.few;
        low = r.low;
        fits = r.fits;
        state = s;
        rest = a.1;
        at = r.at;
        spans = r.spans;
        steps = budget - left + length k;
        tried = rw one at t;
        paid = omega (arith, z.3, z.4, g.few);
        ready = r.ready;
      }

  module _ {used : ℕ} {e : Machine} (q : o ≡ End used e) where
    m : Met used e
    m = trying-end used e q

    -- it is allowed
    pub trying-found : ¬ ((barred ≡ true) × (e.at ≡ from)) → Tried sub x budget from barred first regs (End (budget - (left - used)) e)
    trying-found n =
        let k : m.steps + 1 ≡ budget - (left - used) = omega (arith, m.paid) in
        (omega arith, record { state = m.state; is = rw k at (try-end sub x budget from barred m.steps (left - used) m.state m.rest (λ h. n (h.0, sym m.at ∙ h.1)) m.tried); at = m.at; spans = m.spans })

    -- it is barred, and the machine has fallen back
    pub trying-on : barred ≡ true → e.at ≡ from → {next : Now} → next ≡ fall p regs (stack_of work e.height) → Trying p sub x budget from barred first wide next (left - used)
    trying-on b h f = record {
      rest = m.rest;
      ready = rw f m.ready;
      tried = rw m.paid at (try-barred sub x budget from barred m.steps (left - used) m.state m.rest b (m.at ∙ h) m.tried);
      few = omega (arith, g.few);
    }

-- where nothing is barred, one run is the whole try
pub tried-free : {p sub : List ℕ} {x : Rule} {budget from : ℕ} {first : List ℕ} {wide : ℕ} {now : Now} (g : Trying p sub x budget from false first wide now budget) (o : Stop) {regs work : List ℕ} (done : (f : List ℕ) (t : Trace) → Ready p sub wide budget f now t → Agrees p sub wide budget f regs work (until budget 0 t) o)
    → Tried sub x budget from false first regs o
tried-free {p} {sub} {x} {budget} {from} {first} g (End used e) {regs} done =
    let k : budget - (budget - used) ≡ used = omega (arith, (trying-end g done used e refl).enough) in
    subst (λ (n : ℕ). Tried sub x budget from false first regs (End n e)) k (trying-found g done refl (λ h. clash (cc h.0)))
tried-free {p} {sub} {x} {budget} {from} {first} g (Nothing used) {regs} done =
    let k : budget - (budget - used) ≡ used = omega (arith, trying-few g done used refl) in
    subst (λ (n : ℕ). Tried sub x budget from false first regs (Nothing n)) k (trying-nothing g done used refl)
tried-free g Spent done = trying-spent g done refl

-- the work area keeps its length
pub trying-wide : {p sub : List ℕ} {x : Rule} {budget from : ℕ} {barred : Bool} {first : List ℕ} {wide wide' : ℕ} {now : Now} {left : ℕ} → wide' ≡ wide → Trying p sub x budget from barred first wide now left → Trying p sub x budget from barred first wide' now left
trying-wide e g = rw e g
