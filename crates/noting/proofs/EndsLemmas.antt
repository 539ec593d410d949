-- One start of a listing: what a run to the next end makes of it, and what noting a reading does.
use Rattle.std.specs.Prelude.{None, Some}
use mathlib.Core.Path.{◌≡◌, ap, sym, ◌∙◌}
use mathlib.Core.List.{List, [], ◌∷◌, ◌++◌, append_assoc, append-nil}
use mathlib.Core.Logic.{inl, inr}
use Prim.Native.Nat.{ℕ, suc, ◌+◌, ◌-◌, ◌*◌, ◌≤◌, ◌<◌}
use native.Mathlib.Omega.{arith}
use lib.ListN.{length, length-append}
use Rattle.syntax.specs.Limits.{row_length, registers}
use Rattle.semantics.specs.States.{State, Row, row}
use Rattle.semantics.specs.Walk.{end, Trace}
use Rattle.semantics.specs.Answers.{full, exhausted_at}
use Rattle.semantics.specs.Calls.{joined, room}
use Rattle.semantics.proofs.Laws.Loops.{ListAt, list-quiet, list-known, list-new, list_full, list_over}
use Rattle.machine.specs.declared.Machine.{Machine}
use Rattle.machine.specs.declared.Stop.{Stop}
use Rattle.machine.specs.declared.Stop.TheVariants.{End, Nothing, Spent as OutOfSteps}
use Rattle.machine.specs.Moves.{Now, fall}
use Rattle.machine.specs.Words.{stack_of}
use Rattle.machine.specs.Ready.{until, StackFits, Ready, Agrees}
use Rattle.machine.specs.Theorem.{at-end, at-nothing, at-spent}
use Rattle.machine.specs.Laws.Code.{spans-in-registers}
use Rattle.machine.specs.Laws.Loop.{until-ended, until-nothing, until-spent}
use Rattle.index.specs.Rows.{row_of, rows_at, Whole}
use Rattle.noting.specs.Noting.{Notes, Course, Going, Tells, Through}
use Rattle.index.specs.Laws.Rows.{row_of-length, row_of-row}
use Rattle.noting.specs.Laws.Rows.{joined_length, rows_written}
use Rattle.noting.specs.Laws.Holding.{same-room, held-fit, holds_more}

-- Rows and room ---------------------------------------------------------------

whole-left : (rows more : List Row) → Whole (rows ++ more) → Whole rows
whole-left [] more h = tt
whole-left (x ∷ rows) more h = (h.0, whole-left rows more h.1)

whole-right : (rows more : List Row) → Whole (rows ++ more) → Whole more
whole-right [] more h = h
whole-right (x ∷ rows) more h = whole-right rows more h.1

-- noting a reading writes at most one row
pub noted_one : {area : List ℕ} {earlier rows : ℕ} {x : Row} {new : List ℕ} {n : ℕ} → Notes area earlier rows x new (Some n) → n ≤ rows + 1
noted_one (inl h) = omega (arith, h.1)
noted_one (inr h) = omega (arith, h.more)

-- A turn ------------------------------------------------------------------------

module _ {code sub : List ℕ} {budget start earlier : ℕ} {k : Course} {wide : ℕ} where
  module _ {now : Now} {area : List ℕ} {left rows : ℕ} (g : Going code sub budget start earlier k wide now area left rows) where
    pub earlier-fit : (earlier ≤ rows) × (rows * row_length ≤ length area)
    earlier-fit = (omega (arith, length-append k.old g.seen, g.counted, g.holds.many), held-fit g.holds g.listed.fits)

    seen-stand : rows_at area (earlier * row_length) (rows - earlier) ≡ g.seen
    seen-stand =
        let w = g.holds.whole in
        let a : length (joined k.old) ≡ earlier * row_length = joined_length k.old (whole-left k.old g.seen w) ∙ ap (λ (n : ℕ). n * row_length) g.counted in
        let b : length g.seen ≡ rows - earlier = omega (arith, length-append k.old g.seen, g.counted, g.holds.many) in
        rw g.holds.written (rows_written k.old g.seen k.area (earlier * row_length) (rows - earlier) (whole-right k.old g.seen w) a b)

    module _ {o : Stop} {regs work : List ℕ} (done : (first : List ℕ) (t : Trace) → Ready code sub wide left first now t → Agrees code sub wide left first regs work (until left 0 t) o) where
      agrees : Agrees code sub wide left k.first regs work (until left 0 g.rest) o
      agrees = done k.first g.rest g.ready

      -- the steps are spent
      pub going-spent : o ≡ OutOfSteps → Tells sub k.tree budget k.area area (exhausted_at start) rows (k.before + budget)
      going-spent e =
          let z = until-spent g.rest left 0 (at-spent (rw e at agrees)) in
          let p = z.0 in
          let l = list-quiet sub k.tree budget (room k.area) k.old g.seen g.steps start k.after left p (z.1 ∷ z.2) z.3 (omega (arith, z.5)) (rw z.4 at g.listed) in
          let none : left - length p ≡ 0 = omega (arith, z.5) in
          let all : g.steps + length p ≡ k.before + budget = omega (arith, z.5, g.paid) in
          record { all = k.old ++ g.seen; holds = g.holds; is = rw all at (list_over sub k.tree budget (room k.area) k.old g.seen (g.steps + length p) start k.after 0 z.1 z.2 (rw none at l)) }

      -- nothing is left
      pub going-few : (used : ℕ) → o ≡ Nothing used → used ≤ left
      going-few used e = (at-nothing (rw e at agrees)).1

      pub going-nothing : (used : ℕ) → o ≡ Nothing used → Through sub budget start k regs area rows (budget - (left - used))
      going-nothing used e =
          let a = at-nothing (rw e at agrees) in
          let z = until-nothing g.rest left 0 used a.0 in
          let l = list-quiet sub k.tree budget (room k.area) k.old g.seen g.steps start k.after left g.rest [] z.0 z.2 (rw (append-nil g.rest) g.listed) in
          let s : g.steps + length g.rest ≡ k.before + (budget - (left - used)) = omega (arith, z.1, z.2, g.paid, g.few) in
          record { seen = g.seen; left = left - length g.rest; listed = rw s at l; holds = g.holds; same = a.2; few = omega arith }

      -- an end is reached
      pub record Met·end (used : ℕ) (e : Machine) : Type 0 where
        pub some : 0 < used
        pub enough : used ≤ left
        pub low : 4 * e.height ≤ wide
        pub fits : StackFits code (stack_of work e.height)
        pub state : State
        pub rest : Trace
        pub row_is : row_of start e.at regs ≡ row start state
        pub steps : ℕ
        pub listed : ListAt sub k.tree budget (room k.area) k.old g.seen steps start k.after (suc (left - used)) (end state ∷ rest)
        pub paid : suc steps + (left - used) ≡ k.before + budget
        pub ready : Ready code sub wide (left - used) k.first (fall code regs (stack_of work e.height)) rest

      pub going_end : (used : ℕ) (e : Machine) → o ≡ End used e → Met·end used e
      going_end used e q =
          let a = at-end (rw q at agrees) in
          let s = a.0 in
          let x = a.3 in
          let z = until-ended g.rest left 0 used s a.1 a.2 in
          let p = z.0 in
          let l = list-quiet sub k.tree budget (room k.area) k.old g.seen g.steps start k.after left p (end s ∷ a.1) z.1 (omega (arith, z.3, z.4)) (rw z.2 at g.listed) in
          let one : left - length p ≡ suc (left - used) = omega (arith, z.3, z.4) in
          record {
            some = omega (arith, z.3);
            enough = x.few;
            low = x.low;
            fits = x.fits;
            state = s;
            rest = a.1;
            row_is = rw x.at at (row_of-row start s regs (sym x.spans));
            steps = g.steps + length p;
            listed = rw one at l;
            paid = omega (arith, z.3, z.4, g.paid);
            ready = x.ready;
          }

      module _ {used : ℕ} {e : Machine} (q : o ≡ End used e) (size : length regs ≡ registers) where
        m : Met·end used e
        m = going_end used e q

        long : length (row_of start e.at regs) ≡ row_length
        long = row_of-length start e.at regs (omega (arith, spans-in-registers))

        -- the reading is noted, and the machine has fallen back
        pub going_on : {n : ℕ} {new : List ℕ} → Notes area earlier rows (row_of start e.at regs) new (Some n) → {next : Now} → next ≡ fall code regs (stack_of work e.height) → Going code sub budget start earlier k wide next new (left - used) n
        going_on {n} {new} (inl h) {next} f = record {
          seen = g.seen;
          rest = m.rest;
          steps = suc m.steps;
          ready = rw f m.ready;
          listed = list-known sub k.tree budget (room k.area) k.old g.seen m.steps start k.after (left - used) m.state m.rest (rw (seen-stand, m.row_is) at h.0) m.listed;
          few = omega (arith, g.few);
          paid = m.paid;
          counted = g.counted;
          holds = rw (h.1, h.2) g.holds;
        }
        going_on {n} {new} (inr h) {next} f =
            let x = row_of start e.at regs in
            let l = list-new sub k.tree budget (room k.area) k.old g.seen m.steps start k.after (left - used) m.state m.rest (rw (seen-stand, m.row_is) at h.unmet) (omega (arith, h.free, same-room g.holds g.listed.fits, g.holds.many)) m.listed in
            record {
              seen = g.seen ++ (x ∷ []);
              rest = m.rest;
              steps = suc m.steps;
              ready = rw f m.ready;
              listed = rw m.row_is l;
              few = omega (arith, g.few);
              paid = m.paid;
              counted = g.counted;
              holds = rw (append_assoc k.old g.seen (x ∷ [])) at (holds_more g.holds g.listed.fits x long h.is h.more);
            }

        -- no row is left for it
        pub going-full : {new : List ℕ} → Notes area earlier rows (row_of start e.at regs) new None → Tells sub k.tree budget k.area new full rows (k.before + (budget - (left - used)))
        going-full {new} h =
            let s : m.steps + 1 ≡ k.before + (budget - (left - used)) = omega (arith, m.paid, g.few) in
            record {
              all = k.old ++ g.seen;
              holds = rw h.2 g.holds;
              is = rw s at (list_full sub k.tree budget (room k.area) k.old g.seen m.steps start k.after (left - used) m.state m.rest (rw (seen-stand, m.row_is) at h.0) (omega (arith, h.1, same-room g.holds g.listed.fits, g.holds.many, g.listed.fits)) m.listed);
            }
