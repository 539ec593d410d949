-- Each kind of node on a straight way: one that fails, and one that holds and leads on, over registers and a stack that fall back to the same.
use Rattle.std.specs.Prelude.{◌≡◌, List, true, false, ℕ, suc, ◌+◌, ◌≤◌, get_or, drop}
use Rattle.std.proofs.Math.Path.{refl}
use Rattle.std.proofs.Common.{arith}
use Rattle.std.proofs.Math.Numerals.{add-one}
use Rattle.charset.specs.Class.{has}
use Rattle.semantics.specs.Assertions.{holds}
use Rattle.semantics.specs.Items.{when}
use Rattle.semantics.specs.States.{moved}
use Rattle.machine.specs.Code.{assertion_of, decode_as}
use Rattle.machine.specs.Moves.{Stack, state, go, tested, price, paid, takes, fall, tried, carry_out}
use Rattle.machine.specs.Laws.Ends.{asks-byte, asks-run}
use Rattle.machine.specs.Laws.Extent.{tested-one}
use Rattle.machine.specs.Laws.Loop.{leads-join}
use Rattle.machine.specs.Laws.Run.{fall-saved}
use Rattle.openings.specs.Failing.{Fails}
use Rattle.openings.specs.Laws.Leading.{leads-move}

module _ (p sub : List ℕ) (pc at : ℕ) where
  -- Nodes that fail ---------------------------------------------------------------

  pub byte-missed : get_or p pc 0 ≡ 0 → takes sub (has (drop (pc + 3) p)) at ≡ false → Fails p sub at pc 1
  byte-missed is e = record { back = λ regs st. asks-byte p sub pc is at regs st e }

  pub run-missed : get_or p pc 0 ≡ 10 → 1 ≤ get_or p (pc + 2) 0 → 1 ≤ get_or p (pc + 3) 0 → takes sub (has (drop (get_or p (pc + 6) 0 + 3) p)) at ≡ false → Fails p sub at pc 2
  run-missed is owes some e = record { back = λ regs st. asks-run p sub pc is owes some at regs st e }

  pub assertion-missed : get_or p pc 0 ≡ 1 → holds sub (assertion_of (get_or p (pc + 3) 0)) at ≡ false → Fails p sub at pc 1
  unfolding carry_out price paid tried tested when
  assertion-missed is e = record { back = λ regs st. leads-move p sub 1 pc at regs st _ is (omega arith) (rw e) }

  -- Nodes that hold ---------------------------------------------------------------

  leads-on : (kind next there : ℕ) → get_or p pc 0 ≡ kind → kind ≤ 8
      → ((regs : List ℕ) (st : Stack) → (regs' : List ℕ) × (st' : Stack) × ((carry_out p sub (decode_as kind p pc) at regs st).after ≡ go next there regs' st') × (fall p regs' st' ≡ fall p regs st))
      → (n : ℕ) → Fails p sub there next n → Fails p sub at pc (suc n)
  leads-on kind next there is low e n f =
      let z : suc n ≡ 1 + n = omega arith in
      rw z (record { back = λ regs st. let w = e regs st in leads-join p sub (leads-move p sub kind pc at regs st _ is low w.2) (rw w.3 at (f.back w.0 w.1)) })

  pub byte-taken : get_or p pc 0 ≡ 0 → takes sub (has (drop (pc + 3) p)) at ≡ true → (n : ℕ) → Fails p sub (at + 1) (get_or p (pc + 1) 0) n → Fails p sub at pc (suc n)
  unfolding carry_out price paid tried moved
  byte-taken is e = leads-on 0 _ _ is (omega arith) (λ regs st. (regs, st, rw (tested-one sub (has (drop (pc + 3) p)) (state at regs) e, add-one at), refl))

  pub assertion-held : get_or p pc 0 ≡ 1 → holds sub (assertion_of (get_or p (pc + 3) 0)) at ≡ true → (n : ℕ) → Fails p sub at (get_or p (pc + 1) 0) n → Fails p sub at pc (suc n)
  unfolding carry_out price paid tried tested when
  assertion-held is e = leads-on 1 _ _ is (omega arith) (λ regs st. (regs, st, rw e, refl))

  pub group-opened : get_or p pc 0 ≡ 3 → (n : ℕ) → Fails p sub at (get_or p (pc + 1) 0) n → Fails p sub at pc (suc n)
  unfolding carry_out
  group-opened is = leads-on 3 _ _ is (omega arith) (λ regs st. (_, _, refl, fall-saved p _ _ _ regs st))
