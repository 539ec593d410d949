-- What is promised of a proposal follows from what the check of its bytes tells, and the walk can begin because the rule is held.
use Rattle.std.specs.Prelude.{Result, Ok, Err}
use mathlib.Core.Path.{◌≡◌, ap, sym, ◌∙◌, subst}
use mathlib.Core.List.{List, [], ◌++◌, append-nil}
use Prim.Native.Nat.{ℕ, ◌≤◌}
use native.Mathlib.Omega.{arith}
use lib.ListN.{length, take, replicate, drop_of_length-le}
use lib.Seq.{length-take-le}
use Rattle.syntax.specs.Limits.{unset, registers, budget_limit, row_length}
use Rattle.semantics.specs.States.{State, row}
use Rattle.semantics.specs.Walk.{Trace, trace}
use Rattle.semantics.specs.Calls.{over, work_area_need}
use Rattle.semantics.specs.Proposals.{a_reading, Check}
use Rattle.machine.specs.Moves.{Bytes, go}
use Rattle.machine.specs.Ready.{Ready}
use Rattle.machine.specs.Theorem.{clear-all, begins, enough-room}
use Rattle.frame.specs.Inputs.{Held}
use Rattle.checking.specs.declared.Verdict.{Verdict}
use Rattle.checking.specs.declared.Verdict.TheVariants.{Reading}
use Rattle.following.specs.Paths.{told}
use Rattle.checking.specs.Verdicts.{Reports}
use Rattle.choosing.specs.declared.Unmade.{Unmade}
use Rattle.proposing.specs.declared.Proposal.{Proposal}
use Rattle.proposing.specs.Promises.{Accepted, Accepts, Proposes}

-- a rule that is held can be walked from every start of the subject
pub held-ready : (code subject work : List ℕ) (entry budget start : ℕ) → Held code subject work entry budget → Bytes subject → start ≤ length subject
    → (first : List ℕ) × (t : Trace) × Ready code subject (length work) budget first (go entry start (replicate registers unset) []) t
unfolding work_area_need budget_limit
held-ready code subject work entry budget start h bytes inside = (
  replicate registers unset,
  trace subject h.tree start,
  begins code subject h.tree entry start budget (length work) (replicate registers unset) h.stands bytes clear-all inside (enough-room budget (length work) h.work_fits) (omega (arith, h.budget_fits)),
)

-- a row that is written over a whole area is what stands there
over-whole : (xs area : List ℕ) → length area ≤ length xs → over xs area ≡ xs
unfolding over
over-whole xs area h = ap (λ (ys : List ℕ). xs ++ ys) (drop_of_length-le area h) ∙ append-nil xs

-- a check that tells a reading with this row
pub reading-accepted : (old new wanted : List ℕ) (a : Check) (v : Verdict) (steps : ℕ) → v ≡ Reading steps → Reports old new v a → length old ≡ row_length → new ≡ wanted
    → (start : ℕ) × (t : State) × (a ≡ told (a_reading start t) steps) × (row start t ≡ wanted)
reading-accepted old new wanted a v steps e h size same =
    let z : Reports old new (Reading steps) a = subst (λ (y : Verdict). Reports old new y a) e h in
    (z.0, z.1, z.2, sym (over-whole (row z.0 z.1) old (omega (arith, z.4))) ∙ sym z.3 ∙ same)

-- all of the bytes that were checked are the first of their area
pub proposes : (code subject wanted area : List ℕ) (n entry budget : ℕ) (r : Result Proposal Unmade) → n ≤ length area → Accepts code subject wanted (take n area) entry budget r → Proposes code subject wanted area entry budget r
proposes code subject wanted area n entry budget (Ok made) h a =
    let e : made.bytes ≡ n = a.0 ∙ length-take-le n area h in
    (omega arith, subst (λ (j : ℕ). Accepted code subject wanted (take j area) entry budget made.steps) (sym e) a.1)
proposes code subject wanted area n entry budget (Err why) h a = tt
