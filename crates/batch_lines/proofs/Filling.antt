-- What holds before each line of a buffer: the parts of the lines so far stand in the results, there is room for those that are left, and nothing has
-- changed behind what the budget needs of the work area. A line's part brings it to the next line.
use mathlib.Core.Path.{◌≡◌, refl, sym, ◌∙◌}
use mathlib.Core.List.{List, ◌++◌, ◌∷◌}
use Prim.Native.Nat.{ℕ, ◌+◌, ◌≤◌, ◌<◌}
use native.Mathlib.Omega.{arith}
use lib.ListN.{length, take, drop, length-take, length-drop, length-append}
use Rattle.syntax.specs.Limits.{part_length}
use Rattle.syntax.specs.Tree.{Rule}
use Rattle.semantics.specs.Calls.{work_area_need}
use Rattle.semantics.specs.Batches.{lines_of, parts_need}
use Rattle.semantics.proofs.Laws.Lines.{lines-at-end}
use Rattle.machine.specs.Theorem.{Stands}
use Rattle.frame.specs.Inputs.{between}
use Rattle.text.specs.Lines.{line_length}
use Rattle.text.specs.Laws.Lines.{line-least, line-within}
use Rattle.batch_lines.specs.Parts.{filled, Tells, Fills}
use Rattle.batch_lines.specs.Laws.Lines.{next-line}
use Rattle.batch_lines.specs.Laws.Parts.{part-more, part_filled, none_left}

pub record Filling (code : List ℕ) (entry : ℕ) (buffer : List ℕ) (budget : ℕ) (work₀ results₀ work results : List ℕ) (from at : ℕ) : Type 0 where
  pub wide : length work ≡ length work₀
  pub long : length results ≡ length results₀
  pub rest : drop (work_area_need budget) work ≡ drop (work_area_need budget) work₀
  pub room : at + parts_need (lines_of (drop from buffer)) ≤ length results
  pub stand : (x : Rule) → Stands code x entry → filled x budget (lines_of buffer) results₀ ≡ take at results ++ filled x budget (lines_of (drop from buffer)) (drop at results)

pub filling-begins : (code : List ℕ) (entry : ℕ) (buffer : List ℕ) (budget : ℕ) (work results : List ℕ) → parts_need (lines_of buffer) ≤ length results → Filling code entry buffer budget work results work results 0 0
filling-begins code entry buffer budget work results h = record { wide = refl; long = refl; rest = refl; room = omega (arith, h); stand = λ x st. refl }

module _ {code : List ℕ} {entry : ℕ} {buffer : List ℕ} {budget : ℕ} {work₀ results₀ work results : List ℕ} {from at : ℕ} (h : Filling code entry buffer budget work₀ results₀ work results from at) where
  -- behind the last line the results are as they are to be
  pub filling-ends : length buffer ≤ from → Fills code (lines_of buffer) results₀ results entry budget
  filling-ends l x st = sym (h.stand x st ∙ rw (lines-at-end buffer from l) (none_left x budget at results))

  -- the next line, up to its end
  module _ (l : from < length buffer) (to : ℕ) (e : to ≡ from + line_length (drop from buffer)) where
    abbrev line : List ℕ
    line = between buffer from to

    pub line-inside : (from ≤ to) × (to ≤ length buffer)
    line-inside = (line-least buffer from to e, line-within buffer from to e (omega arith))

    room-behind : at + part_length + parts_need (lines_of (drop (to + 1) buffer)) ≤ length results
    room-behind =
        let g : at + parts_need (line ∷ lines_of (drop (to + 1) buffer)) ≤ length results = rw (next-line buffer from to l e) at h.room in
        omega (arith, part-more line (lines_of (drop (to + 1) buffer)))

    pub part-inside : at + part_length ≤ length results
    part-inside = omega (arith, room-behind)

    pub part-lent : (k : ℕ) → k ≡ part_length → length (take k (drop at results)) ≡ part_length
    part-lent k q = omega (arith, length-take k (drop at results), length-drop at results, part-inside)

    -- once its part is written
    pub filling-on : (k : ℕ) → k ≡ part_length → {work' part : List ℕ} → length work' ≡ length work → drop (work_area_need budget) work' ≡ drop (work_area_need budget) work
        → length part ≡ length (take k (drop at results)) → Tells code line (take k (drop at results)) part entry budget
        → Filling code entry buffer budget work₀ results₀ work' (take at results ++ (part ++ drop k (drop at results))) (to + 1) (at + part_length)
    filling-on k q {work'} {part} w r n t =
        let new = take at results ++ (part ++ drop k (drop at results)) in
        let size : length part ≡ part_length = n ∙ part-lent k q in
        let same : length new ≡ length results = length-append (take at results) (part ++ drop k (drop at results)) ∙ omega (arith, length-append part (drop k (drop at results)), length-drop k (drop at results), length-drop at results, length-take at results, part-inside, size, q) in
        record {
          wide = w ∙ h.wide;
          long = same ∙ h.long;
          rest = r ∙ h.rest;
          room = omega (arith, room-behind, same);
          stand = λ x st. h.stand x st ∙ rw (next-line buffer from to l e) (part_filled x budget line (lines_of (drop (to + 1) buffer)) at k results part q part-inside size (t x st) new refl);
        }
