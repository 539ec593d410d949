-- What leaves the registers fresh: a match, whose row has no group that the rule does not have, and unsetting them. Once the rule's own groups are unset too,
-- they are clear.
use Rattle.std.specs.Prelude.{◌≡◌, refl, List, ◌++◌, ◌⊎◌, ℕ, zero, suc, ◌+◌, ◌-◌, ◌*◌, ◌≤◌, ◌<◌, get_or, length, take, drop, replicate}
use Rattle.std.proofs.Common.{sym, ap, ◌∙◌, inl, inr, arith, length-append, length-drop, length-take, length-take-le, get_or-take, get_or-drop, get_or-append-add, ext_get_or}
use Rattle.std.proofs.Math.Decide.{dec_lt}
use Rattle.std.proofs.lemmas.List.{length-replicate, get_or-replicate}
use Rattle.std.proofs.Math.ListN.{get_or-append}
use Rattle.syntax.specs.Limits.{group_limit, spans_length, unset, registers, slot}
use Rattle.syntax.specs.Tree.{Rule}
use Rattle.syntax.specs.WellFormed.{Proper}
use Rattle.semantics.specs.States.{State, row}
use Rattle.semantics.specs.Answers.{Answer, answer}
use Rattle.semantics.specs.Demands.{RowFacts}
use Rattle.semantics.proofs.Laws.Matches.{demand_2}
use Rattle.semantics.proofs.Laws.Rows.{row-facts}
use Rattle.machine.specs.Theorem.{Clear}
use Rattle.seeking.specs.Starts.{Match}
use Rattle.finding.specs.Registers.{Fresh}

spans-in : spans_length ≤ registers
unfolding registers spans_length group_limit
spans-in = omega arith

-- the number of a span at a position among the spans
spanned : (regs : List ℕ) (i : ℕ) → i < spans_length → get_or regs i 0 ≡ get_or (take spans_length regs) i 0
spanned regs i l = sym (get_or-take spans_length regs i 0 l)

pub clear-fresh : (groups : ℕ) {regs : List ℕ} → Clear regs → Fresh groups regs
clear-fresh groups {regs} h = record { size = h.size; missing = λ i l u. spanned regs i u ∙ ap (λ (s : List ℕ). get_or s i 0) h.spans ∙ get_or-replicate spans_length i unset 0 u }

-- Unsetting -----------------------------------------------------------------------

module _ (groups : ℕ) (old : List ℕ) where
  abbrev unsetting : List ℕ
  unsetting = replicate (2 * groups) unset ++ drop (2 * groups) old

  own-unset : (i : ℕ) → i < 2 * groups → get_or unsetting i 0 ≡ unset
  own-unset i l =
      get_or-append (replicate (2 * groups) unset) (drop (2 * groups) old) 0 i (omega (arith, length-replicate (2 * groups) unset, l)) ∙ get_or-replicate (2 * groups) i unset 0 l

  other-same : (i : ℕ) → 2 * groups ≤ i → get_or unsetting i 0 ≡ get_or old i 0
  other-same i l =
      let e : i ≡ length (replicate (2 * groups) unset) + (i - 2 * groups) = omega (arith, length-replicate (2 * groups) unset) in
      let z : 2 * groups + (i - 2 * groups) ≡ i = omega arith in
      ap (λ (k : ℕ). get_or unsetting k 0) e ∙ get_or-append-add (replicate (2 * groups) unset) (drop (2 * groups) old) (i - 2 * groups) 0 ∙ get_or-drop (2 * groups) old (i - 2 * groups) 0 ∙ ap (λ (k : ℕ). get_or old k 0) z

  -- unset also where they were not fresh
  pub unset-clear : {new : List ℕ} → new ≡ unsetting → 2 * groups ≤ spans_length → Fresh groups old → Clear new
  unset-clear {new} e few f =
      let long : length unsetting ≡ registers = length-append (replicate (2 * groups) unset) (drop (2 * groups) old) ∙ omega (arith, length-replicate (2 * groups) unset, length-drop (2 * groups) old, f.size, spans-in) in
      let size : length new ≡ registers = ap (λ (s : List ℕ). length s) e ∙ long in
      record {
        size = size;
        spans = ext_get_or 0 (take spans_length new) (replicate spans_length unset) (length-take-le spans_length new (omega (arith, size, spans-in)) ∙ sym (length-replicate spans_length unset))
            (λ i l. let u : i < spans_length = omega (arith, l, length-take spans_length new) in
            get_or-take spans_length new i 0 u ∙ ap (λ (s : List ℕ). get_or s i 0) e ∙ one i u (dec_lt i (2 * groups)) ∙ sym (get_or-replicate spans_length i unset 0 u));
      }
    where
      one : (i : ℕ) → i < spans_length → Dec (i < 2 * groups) → get_or unsetting i 0 ≡ unset
      one i u (yes l) = own-unset i l
      one i u (no l) = other-same i (omega arith) ∙ f.missing i (omega arith) u

-- all groups
pub unset-all : (old : List ℕ) → length old ≡ registers → Fresh group_limit old
unfolding spans_length
unset-all old e = record { size = e; missing = λ i l u. absurd (omega arith) }

-- A match -------------------------------------------------------------------------

-- a number is the first or the second of a group
half : (i : ℕ) → (k : ℕ) × ((i ≡ 2 * k) ⊎ (i ≡ 2 * k + 1))
half zero = (0, inl refl)
half (suc i) = let h = half i in elim h.1 [ inl e ↦ (h.0, inr (omega arith)) | inr e ↦ (suc h.0, inl (omega arith)) ]

missing-unset : (sub : List ℕ) (groups start : ℕ) (t : State) → RowFacts sub groups (row start t) → (i : ℕ) → 2 * groups ≤ i → i < spans_length → get_or t.spans i 0 ≡ unset
unfolding row spans_length slot
missing-unset sub groups start t f i l u =
    let h = half i in
    let k = h.0 in
    let z : 2 * (suc k - 1) ≡ 2 * k = omega arith in
    let m = f.missing (suc k) (elim h.1 [ inl e ↦ omega (arith, e) | inr e ↦ omega (arith, e) ]) (elim h.1 [ inl e ↦ omega (arith, e) | inr e ↦ omega (arith, e) ]) in
    elim h.1 [ inl e ↦ rw (e, ← z) m.0 | inr e ↦ rw (e, ← z) m.1 ]

pub found-fresh : (sub : List ℕ) (x : Rule) (budget : ℕ) {regs : List ℕ} {start stop steps groups : ℕ} → Match regs start stop steps (answer sub x budget) → Proper groups x → groups ≤ group_limit → length regs ≡ registers → Fresh groups regs
found-fresh sub x budget {regs} {start} {stop} {steps} {groups} m p few size =
    let t = m.state in
    let w = ((demand_2 sub x budget).matched_exactly start t).0 (ap (λ (a : Answer). a.outcome) m.is) in
    let f = row-facts sub start groups few x p w.start t w.first_by_priority.derives in
    record { size = size; missing = λ i l u. spanned regs i u ∙ ap (λ (s : List ℕ). get_or s i 0) (sym m.spans) ∙ missing-unset sub groups start t f i l u }
