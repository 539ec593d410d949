-- `run_length` meets its contract: the bytes end at the subject's end, behind the most rounds, or where the steps that are left are too few,
-- whichever is nearest.
use Prim.Native.Nat.{◌+◌, ◌-◌}
use native.Mathlib.Omega.{arith}
use lib.ListN.{get_or, drop, length-drop}
use Rattle.charset.specs.Class.{has}
use Rattle.run_ends.proofs.Bytes.{rest-whole, extent-low, run_ends}
use Rattle.run_ends.proofs.run_length.Goals as goal

pub overflow_cast-most : goal.overflow_cast-most
overflow_cast-most c = omega (arith, c.type_inv.code (c.args.pc + 3))

pub bytes_end-end-requires : goal.bytes_end-end-requires
bytes_end-end-requires c = (rw (rest-whole c.args.code.now (get_or c.args.code.now (c.args.pc + 6) 0 + 3)) (simp length-drop (omega arith)), omega (arith, c.min-stop.ensures))

pub overflow_cast-result : goal.overflow_cast-result
overflow_cast-result c = let class = get_or c.args.code.now (c.args.pc + 6) 0 + 3 in
    omega (arith, rw (rest-whole c.args.code.now class) at c.bytes_end-end.ensures, extent-low c.args.sub.now (has (drop class c.args.code.now)) (c.min-stop.result - c.args.at) c.args.at)

pub returns : goal.returns
returns c = let class = get_or c.args.code.now (c.args.pc + 6) 0 + 3 in
    run_ends c.args.code.now c.args.sub.now c.args.pc c.args.at c.args.left c.min-few.result c.min-stop.result c.bytes_end-end.result (omega arith) (omega arith) c.min-few.ensures c.min-stop.ensures (rw (rest-whole c.args.code.now class) at c.bytes_end-end.ensures)
