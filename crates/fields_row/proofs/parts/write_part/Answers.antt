-- The tab and the field's next bytes are written one behind the other, and what is left is the rest of the field, or the next one.
use mathlib.Core.Path.{◌≡◌, refl, ap}
use mathlib.Core.List.{List}
use mathlib.Core.Logic.{inl, inr}
use Prim.Native.Nat.{ℕ, ◌+◌, ◌-◌, ◌≤◌}
use native.Mathlib.Omega.{arith}
use lib.ListN.{length, take, drop, length-take, length-drop}
use lib.Seq.{take_all}
use Rattle.lookup.specs.Laws.Lookup.{lent-bytes}
use Rattle.fields_row.specs.Promises.{chunk, part_room, fields_from}
use Rattle.fields_row.specs.Laws.Parts.{field-here, before-short, spoken-none, spoken-whole, spoken-part}
use Rattle.fields_row.proofs.parts.write_part.Goals as goal

pub write_tab-tab-requires : goal.write_tab-tab-requires
unfolding part_room chunk
write_tab-tab-requires c = omega arith

pub column-requires : goal.column-requires
column-requires c = (omega (arith, c.requires.columned.few), c.requires.columned.fits)

pub returns-then-text-taken : goal.returns-then-text-taken
returns-then-text-taken c = let a = c.args in
    let f : List ℕ = c.field-text.result.now in
    let here = field-here a.columns.now a.count a.names.now a.line.now a.standing.now a.kind a.row.now a.p.column c.requires.column_lt_count.0 f _ (lent-bytes a.line a.standing c.field-text.result _ c.field-text.ensures) c.column.ensures in
    record {
      onward = inl (omega arith, omega arith);
      spoken = spoken-none (fields_from a.columns.now a.count a.names.now a.line.now a.standing.now a.kind a.row.now) f a.p here c.requires.column_lt_count.1 c.write_tab-tab.ensures c.if-text-taken.true;
    }

pub write_escaped-whole-requires : goal.write_escaped-whole-requires
unfolding part_room chunk
write_escaped-whole-requires c = simp (length-take, length-drop) (omega (arith, c.write_tab-tab.ensures.ends, before-short c.args.p.taken))

pub returns-then-text-taken-le-CHUNK : goal.returns-then-text-taken-le-CHUNK
unfolding chunk
returns-then-text-taken-le-CHUNK c = let a = c.args in
    let f : List ℕ = c.field-text.result.now in
    let here = field-here a.columns.now a.count a.names.now a.line.now a.standing.now a.kind a.row.now a.p.column c.requires.column_lt_count.0 f _ (lent-bytes a.line a.standing c.field-text.result _ c.field-text.ensures) c.column.ensures in
    let t : List ℕ = take (length f - a.p.taken) (drop a.p.taken f) in
    let few : length t ≤ 4096 = simp (length-take, length-drop) (omega arith) in
    let whole : t ≡ drop a.p.taken f = take_all (length f - a.p.taken) (drop a.p.taken f) (simp length-drop (omega arith)) in
    record {
      onward = inl (omega arith, omega arith);
      spoken = spoken-whole (fields_from a.columns.now a.count a.names.now a.line.now a.standing.now a.kind a.row.now) f a.p here c.requires.column_lt_count.1 c.write_tab-tab.ensures t few c.write_escaped-whole.ensures whole;
    }

pub write_escaped-put-requires : goal.write_escaped-put-requires
unfolding part_room chunk
write_escaped-put-requires c = simp (length-take, length-drop) (omega (arith, c.write_tab-tab.ensures.ends, before-short c.args.p.taken))

pub returns : goal.returns
unfolding chunk
returns c = let a = c.args in
    let f : List ℕ = c.field-text.result.now in
    let here = field-here a.columns.now a.count a.names.now a.line.now a.standing.now a.kind a.row.now a.p.column c.requires.column_lt_count.0 f _ (lent-bytes a.line a.standing c.field-text.result _ c.field-text.ensures) c.column.ensures in
    let e : a.p.taken + 4096 - a.p.taken ≡ 4096 = omega arith in
    let t : List ℕ = take (a.p.taken + 4096 - a.p.taken) (drop a.p.taken f) in
    let few : length t ≤ 4096 = simp (length-take, length-drop) (omega arith) in
    record {
      onward = inr (refl, omega arith);
      spoken = spoken-part (fields_from a.columns.now a.count a.names.now a.line.now a.standing.now a.kind a.row.now) f a.p here c.requires.column_lt_count.1 c.write_tab-tab.ensures t few c.write_escaped-put.ensures (ap (λ (k : ℕ). take k (drop a.p.taken f)) e) (omega arith);
    }
