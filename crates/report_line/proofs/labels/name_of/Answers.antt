-- There are at most 64 groups, and a name is told from the bytes behind its length, which are as many as the longest has.
use native.Mathlib.Omega.{arith}
use mathlib.Core.List.{List}
use Prim.Native.Nat.{ℕ, ◌+◌, ◌-◌, ◌*◌, ◌≤◌}
use lib.ListN.{length, take, drop}
use Rattle.std.proofs.lemmas.List.{length-take}
use Rattle.std.specs.Prelude.{Option, Some, None, IfSome}
use Rattle.std.specs.List.{PartBy}
use Rattle.syntax.specs.Limits.{group_limit, name_limit}
use Rattle.report_line.proofs.labels.name_of.Goals as goal

-- what is taken of a list is no longer than it
taken : {R : Type 0} (now : R → List ℕ) (xs : List ℕ) (to n : ℕ) (r : Option R) → length xs ≤ n → PartBy now xs 0 to r → IfSome r (λ x. length (now x) ≤ n)
taken now xs to n None h p = tt
taken now xs to n (Some x) h p = omega (arith, h, p.0.1, p.0.3)

-- an entry has a byte more than the longest name, its first, and so no more behind it
entry : (a : ℕ) (xs : List ℕ) → length (take (a + 17 - a) (drop a xs)) ≤ 17
entry a xs = omega (arith, length-take (a + 17 - a) (drop a xs))

behind : (e : List ℕ) → length e ≤ 17 → length (take (length e - 1) (drop 1 e)) ≤ 16
behind e h = omega (arith, h, length-take (length e - 1) (drop 1 e))

pub overflow_mul-from : goal.overflow_mul-from
unfolding group_limit
overflow_mul-from c = omega arith

pub overflow_add-to : goal.overflow_add-to
unfolding group_limit
overflow_add-to c = omega arith

pub slice_bounds-entry-end : goal.slice_bounds-entry-end
unfolding group_limit
slice_bounds-entry-end c = omega arith

pub returns-in_default-size : goal.returns-in_default-size
unfolding name_limit
returns-in_default-size c = taken (λ x. x.now) _ _ _ c.get.result (behind _ (entry (c.args.passed * 17) c.args.names.now)) c.get.ensures.lookup
