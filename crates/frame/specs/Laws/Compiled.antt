-- What compiling a rule tells whoever goes on to walk it.
use Rattle.std.specs.Prelude.{◌≡◌, Bool, true, false, List, ℕ, ◌*◌, ◌≤◌, ◌<◌, Result, Ok, Err}
use Rattle.std.proofs.Common.{◌∙◌, arith}
use Rattle.std.proofs.Math.Path.{subst}
use Rattle.std.proofs.Math.Option.{none}
use Rattle.std.proofs.Math.ListN.{length, take, drop, get_or, length-take, length-drop}
use Rattle.std.proofs.Math.Seq.{get_or-take, length-take-le}
use Rattle.syntax.specs.declared.Refusal.{Refusal}
use Rattle.syntax.specs.Limits.{rule_area_need, group_limit, spans_length}
use Rattle.syntax.specs.Read.{sound, refused}
use Rattle.syntax.specs.Tree.{Rule}
use Rattle.syntax.specs.Reading.{names_of, reading}
use Rattle.syntax.specs.Checkable.{uncheckable}
use Rattle.syntax.specs.Laws.Names.{names_of-few}
use Rattle.reader.specs.declared.compiling.Compiled.{Compiled}
use Rattle.reader.specs.Compiles.{Fails, Says, Compiles, Stands as StandsCompiled}
use Rattle.name_table.specs.Table.{names_in, NamesFit, spelled_same, names_fit, names-are}
use Rattle.linker.proofs.Compiled.{keep}
use Rattle.reader.specs.Areas.{table_start}
use Rattle.machine.specs.Theorem.{Stands}

module _ {checked : Bool} {s : List ℕ} {flags : ℕ} {old new : List ℕ} {r : Result Compiled Refusal} (h : Compiles checked s flags old new r) where
  pub compile-failed : (f : Refusal) → r ≡ Err f → Fails checked s flags f
  compile-failed f e = subst (λ (x : Result Compiled Refusal). Says checked s flags new x) e h.says

  stood : (k : Compiled) → r ≡ Ok k → StandsCompiled checked s flags new k.entry k.groups
  stood k e = subst (λ (x : Result Compiled Refusal). Says checked s flags new x) e h.says

  pub compile-near : (k : Compiled) → r ≡ Ok k → k.entry ≤ rule_area_need
  compile-near k e = (stood k e).near

  -- the rule stands in the needed part of the area alone, and a check can follow it, if it is one
  pub compile-sound : (k : Compiled) → r ≡ Ok k → rule_area_need ≤ length new → (x : Rule) × (at : ℕ) × (reading s flags ≡ sound (x, k.groups) at) × Stands (take rule_area_need new) x k.entry × (checked ≡ true → uncheckable x ≡ none)
  unfolding rule_area_need
  compile-sound k e l =
      let z = stood k e in
      let front : (i : ℕ) → i < rule_area_need → get_or (take rule_area_need new) i 0 ≡ get_or new i 0 = λ i u. get_or-take rule_area_need new i 0 u in (
        z.tree,
        z.stop,
        z.reads,
        record {
          low = 1;
          high = rule_area_need;
          within = omega (arith, length-take-le rule_area_need new l);
          end = front 0 (omega arith) ∙ z.end;
          compiled = keep new (take rule_area_need new) 1 rule_area_need 1 rule_area_need (omega arith) (omega arith) (λ i a b. front i b) z.tree k.entry 0 spans_length z.compiled;
        },
        z.followed,
      )

  -- the names of its groups, in the table that stands in the needed part of the area, and that there are no more groups than there can be
  pub compile-named : (k : Compiled) → r ≡ Ok k → rule_area_need ≤ length new → NamesFit s (take spans_length (drop table_start new)) k.groups × (names_in s (take spans_length (drop table_start new)) k.groups ≡ names_of s flags) × (k.groups ≤ group_limit)
  unfolding table_start rule_area_need spans_length group_limit
  compile-named k e l =
      let z = stood k e in
      let groups = k.groups in
      let few = names_of-few s flags in
      let rest = drop table_start new in
      let table = take spans_length rest in
      let same : (i : ℕ) → i < 2 * length (names_of s flags) → get_or table i 0 ≡ get_or rest i 0 = λ i u. get_or-take spans_length rest i 0 (omega arith) in
      let spelled = spelled_same s (names_of s flags) rest table same z.named in
      let long : 2 * groups ≤ length table = omega (arith, z.many, length-take spans_length rest, length-drop table_start new) in
      (names_fit s (names_of s flags) table groups z.many spelled long, names-are s (names_of s flags) table groups z.many spelled, omega (arith, z.many, few))

-- where no check asks, only the reading refuses
pub compile-refused : {s : List ℕ} {flags : ℕ} {old new : List ℕ} {r : Result Compiled Refusal} → Compiles false s flags old new r → (f : Refusal) → r ≡ Err f → reading s flags ≡ refused f.place f.reason
compile-refused h f e = compile-failed h f e
