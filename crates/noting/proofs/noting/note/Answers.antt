-- The row is looked for on the chain of its bucket; a new one is written behind all others, where there is room, and put into the index.
use mathlib.Core.Path.{◌≡◌, refl, sym, ◌∙◌}
use mathlib.Core.Logic.{inl, inr}
use Prim.Native.Nat.{ℕ, ◌+◌, ◌-◌, ◌≤◌}
use native.Mathlib.Omega.{arith}
use lib.ListN.{length, take, drop, length-drop}
use Rattle.syntax.specs.Limits.{row_length}
use Rattle.semantics.specs.Calls.{room}
use Rattle.index.specs.Rows.{row_of}
use Rattle.index.specs.Index.{bucket_of, row_at, Indexed}
use Rattle.index.specs.Laws.Rows.{row_of-length}
use Rattle.index.specs.Laws.Index.{row_written, indexed-written}
use Rattle.noting.specs.Laws.Parts.{rest-whole, rest-front, rest_back}
use Rattle.noting.proofs.noting.note.Goals as goal

pub find-requires : goal.find-requires
find-requires c = let a = c.args in
    let p = c.requires in
    let b = c.bucket-bucket.ensures in
    let all : take (length a.work.now - a.half) (drop a.half a.work.now) ≡ drop a.half a.work.now = rest-whole a.work.now a.half in
    let held : Indexed a.results.now (take (length a.work.now - a.half) (drop a.half a.work.now)) a.heads a.spans a.earlier a.rows = rw all p.indexed in
    let room : a.heads + (a.rows - a.earlier) ≤ length (take (length a.work.now - a.half) (drop a.half a.work.now)) = rw all (simp length-drop (omega arith)) in
    record {
      earlier_le_rows = (p.earlier_le_rows.0, p.earlier_le_rows.1, b.0, room, p.earlier_le_rows.2);
      by_index = (a.spans, b.1 a.start, held);
    }

pub returns-then-find : goal.returns-then-find
unfolding row_length
returns-then-find c = let a = c.args in
    let p = c.requires in
    record {
      notes = inl (sym c.find.ensures ∙ c.if-find.true, refl, refl);
      by_index = λ n e. (let q : a.rows ≡ n = cc in rw (← q) p.indexed);
      work_unchanged = refl;
    }

pub returns-then-results-rows : goal.returns-then-results-rows
unfolding row_length room
returns-then-results-rows c = record {
  notes = (sym c.find.ensures ∙ c.if-find.false, omega arith, refl);
  by_index = λ n e. (let z : ◌≡◌ {A = ℕ} 0 1 = cc in absurd (omega arith));
  work_unchanged = refl;
}

pub write_row-requires : goal.write_row-requires
unfolding row_length
write_row-requires c = (omega arith, c.requires.earlier_le_rows.2)

pub returns : goal.returns
unfolding row_length room
returns c = let a = c.args in
    let p = c.requires in
    let x = row_of a.start a.stop a.registers.now in
    let long : length x ≡ row_length = row_of-length a.start a.stop a.registers.now p.earlier_le_rows.2 in
    let new = c.write_row.new.results in
    let index = c.insert.new.index in
    let stands : row_at new a.rows ≡ x = row_written a.results.now x a.rows p.earlier_le_rows.1 long c.write_row.ensures in
    let held = indexed-written a.results.now x a.rows p.earlier_le_rows.1 long c.write_row.ensures p.indexed in
    let bucket : c.bucket-bucket.result ≡ bucket_of a.heads a.spans (row_at new a.rows) = rw stands (c.bucket-bucket.ensures.1 a.start) in
    let more = c.insert.ensures.by_index new a.spans bucket (rw (rest-whole a.work.now a.half) held) in
    record {
      notes = inr (record { unmet = sym c.find.ensures ∙ c.if-find.false; free = omega arith; more = refl; is = c.write_row.ensures });
      by_index = λ n e. (let q : a.rows + 1 ≡ n = cc in rw (← q, rest_back a.work.now a.half index (omega arith)) more);
      work_unchanged = rest-front a.work.now a.half index (omega arith);
    }
