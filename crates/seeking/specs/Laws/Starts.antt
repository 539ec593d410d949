-- What a start's walk leaves of the starts: the answer, or those behind it. Each thing that a run can tell of the walk is a law of the loops in semantics,
-- at the place in the trace that the run tells.
use Rattle.std.specs.Prelude.{◌≡◌, refl, List, [], ◌∷◌, ℕ, suc, ◌+◌, ◌*◌, ◌-◌, ◌^◌, ◌≤◌, ◌<◌, length}
use Rattle.std.proofs.Common.{sym, subst, append-nil, inl, inr, arith, add-one}
use Rattle.syntax.specs.Limits.{budget_limit}
use Rattle.syntax.specs.Tree.{Rule}
use Rattle.semantics.specs.States.{State, row}
use Rattle.semantics.specs.Walk.{Trace, end, trace}
use Rattle.semantics.specs.Answers.{matched, exhausted, Answer, answer}
use Rattle.semantics.proofs.Laws.Loops.{SeekAt, seek-quiet, seek-end, seek-over, seek-next, seek-last, match-begin}
use Rattle.semantics.specs.Calls.{work_area_need}
use Rattle.machine.specs.Moves.{Bytes, go}
use Rattle.machine.specs.Ready.{ended, nothing, spent, until, Ready}
use Rattle.machine.specs.Theorem.{Stands, Clear, begins, enough-room}
use Rattle.machine.specs.Laws.Loop.{until-ended, until-nothing, until-spent}
use Rattle.openings.specs.declared.Opening.{Opening}
use Rattle.openings.specs.Openings.{Outside, Opens}
use Rattle.skipping.specs.Passing.{Passed}
use Rattle.skipping.specs.Laws.{passes}
use Rattle.frame.specs.Inputs.{Held}
use Rattle.index.specs.Rows.{row_of}
use Rattle.index.specs.Laws.Rows.{row_of-row}
use Rattle.seeking.specs.Starts.{Seeks, Near, Match}

-- all starts make the match's answer
pub seeks-begin : (sub : List ℕ) (x : Rule) (budget : ℕ) → Seeks sub x budget (answer sub x budget) 0 0
seeks-begin sub x budget = let z : length sub - 0 ≡ length sub = omega arith in record { goes = λ n. rw z (match-begin sub x budget); none = λ n. absurd (omega arith) }

-- a match's row
pub match-row : {regs : List ℕ} {start stop steps : ℕ} {a : Answer} (m : Match regs start stop steps a) → row_of start stop regs ≡ row start m.state
match-row {regs} {start} m = rw (← m.at) (row_of-row start m.state regs (sym m.spans))

-- One start -------------------------------------------------------------------

-- nothing is left of a start's walk
pub seeks-behind : (sub : List ℕ) (x : Rule) (budget : ℕ) (a : Answer) (steps begin b : ℕ) → begin ≤ length sub → SeekAt sub x budget a steps begin (length sub - begin) b [] → Seeks sub x budget a steps (begin + 1)
seeks-behind sub x budget a steps begin b inside h = record {
  goes = λ n.
      (let z : length sub - begin ≡ suc (length sub - (begin + 1)) = omega arith in
      rw (add-one begin) (seek-next sub x budget a steps begin (length sub - suc begin) b (rw (add-one begin) at (rw z at h))));
  none = λ n.
      (let z : length sub - begin ≡ 0 = omega arith in
      seek-last sub x budget a steps begin 0 b (rw z at h));
}

-- from the start `begin`, what its walk's trace finds within the budget
module _ {sub : List ℕ} {x : Rule} {budget : ℕ} {a : Answer} {steps begin : ℕ} (g : Seeks sub x budget a steps begin) (h : begin ≤ length sub) where
  abbrev c : ℕ
  c = length sub - begin

  abbrev t : Trace
  t = trace sub x begin

  pub seeks-end : (used : ℕ) (s : State) (rest : Trace) → until budget 0 t ≡ ended used s rest → a ≡ record { outcome = matched begin s; steps = steps + used }
  seeks-end used s rest e =
      let z = until-ended t budget 0 used s rest e in
      let l : length z.0 ≤ budget = omega (arith, z.3, z.4) in
      let b : budget - length z.0 ≡ suc (budget - used) = omega (arith, z.3, z.4) in
      let k : steps + length z.0 + 1 ≡ steps + used = omega (arith, z.3) in
      let q = seek-quiet sub x budget a steps begin c budget z.0 (end s ∷ rest) z.1 l (subst (λ (u : Trace). SeekAt sub x budget a steps begin c budget u) z.2 (g.goes h)) in
      rw k at (seek-end sub x budget a (steps + length z.0) begin c (budget - used) s rest (rw b at q))

  pub seeks-spent : until budget 0 t ≡ spent → a ≡ record { outcome = exhausted begin; steps = steps + budget }
  seeks-spent e =
      let z = until-spent t budget 0 e in
      let l : length z.0 ≤ budget = omega (arith, z.5) in
      let b : budget - length z.0 ≡ 0 = omega (arith, z.5) in
      let k : steps + length z.0 ≡ steps + budget = omega (arith, z.5) in
      let q = seek-quiet sub x budget a steps begin c budget z.0 (z.1 ∷ z.2) z.3 l (subst (λ (u : Trace). SeekAt sub x budget a steps begin c budget u) z.4 (g.goes h)) in
      rw k at (seek-over sub x budget a (steps + length z.0) begin c 0 z.1 z.2 (rw b at q))

  pub seeks-pass : (used : ℕ) → until budget 0 t ≡ nothing used → Seeks sub x budget a (steps + used) (begin + 1)
  seeks-pass used e =
      let z = until-nothing t budget 0 used e in
      let k : length t ≡ used = omega (arith, z.1) in
      let q = seek-quiet sub x budget a steps begin c budget t [] z.0 z.2 (subst (λ (u : Trace). SeekAt sub x budget a steps begin c budget u) (sym (append-nil t)) (g.goes h)) in
      seeks-behind sub x budget a (steps + used) begin (budget - used) h (rw k at q)

-- Starts that are passed --------------------------------------------------------

-- what stands over all starts: the rule and its opening, the line's bytes, registers that are clear, and room in the work area. Steps have 32 bits.
pub record Lent (p sub r w : List ℕ) (entry budget : ℕ) (o : Opening) : Type 0 where
  pub held : Held p sub w entry budget
  pub clear : Clear r
  pub opens : Opens p entry budget o
  pub bytes : Bytes sub
  pub budget_small : budget < 4294967296
  pub cost_small : o.cost < 4294967296

module _ {p sub r w : List ℕ} {entry budget : ℕ} {o : Opening} (g : Lent p sub r w entry budget o) where
  room : 8 * budget ≤ length w
  unfolding work_area_need
  room = enough-room budget (length w) g.held.work_fits

  short : 2 * budget < 2 ^ 32
  unfolding budget_limit
  short = omega (arith, g.held.budget_fits)

  pub lent-ready : (x : Rule) → Stands p x entry → (begin wide : ℕ) → wide ≡ length w → begin ≤ length sub → Ready p sub wide budget r (go entry begin r []) (trace sub x begin)
  lent-ready x st begin wide e h = begins p sub x entry begin budget wide r st g.bytes g.clear h (omega (arith, room)) short

  module _ (begin from steps : ℕ) (passed : Passed o.set o.any sub o.cost begin from) where
    -- what an opening says of a start is what its walk finds
    pub seeks-from : {x : Rule} {a : Answer} → Stands p x entry → 1 ≤ begin → Seeks sub x budget a steps begin → Seeks sub x budget a (steps + (from - begin) * o.cost) from
    seeks-from {x} {a} st later = passes (λ i s. Seeks sub x budget a s i) o.cost passed steps (each g.opens)
      where
        each : Opens p entry budget o → (i s : ℕ) → begin ≤ i → i < from → i < length sub → Outside o.set o.any sub i → Seeks sub x budget a s i → Seeks sub x budget a (s + o.cost) (i + 1)
        each (inl e) i s l h u out y = absurd (omega (arith, passed.none e))
        each (inr k) i s l h u out y = seeks-pass y (omega arith) o.cost (k.tells sub r (length w) r (trace sub x i) i g.bytes (lent-ready x st i (length w) refl (omega arith)) (omega arith) out)

    pub near-from : Near sub begin steps → Near sub from (steps + (from - begin) * o.cost)
    near-from = passes (λ i s. Near sub i s) o.cost passed steps (λ i s l h u out y. record { few = omega arith; small = omega (arith, y.small, g.cost_small) })
