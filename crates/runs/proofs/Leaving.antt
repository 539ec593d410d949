-- A run as the code makes it: where its own steps lead, what is then in range, and where the steps of the ends that are passed over lead.
-- Assumes nothing.
use mathlib.Core.Path.{◌≡◌}
use mathlib.Core.Logic.{⊎_elim}
use mathlib.Core.List.{List}
use mathlib.Core.Bool.{Bool, true}
use Prim.Native.Nat.{ℕ, suc, ◌+◌, ◌*◌, ◌-◌, ◌≤◌, ◌<◌}
use native.Mathlib.Omega.{arith}
use lib.ListN.{length, get_or}
use borrow.Author.Tests.{lt-ltb, le-ltb}
use Rattle.semantics.specs.Repeats.{is_full}
use Rattle.machine.specs.declared.Machine.{Machine}
use Rattle.machine.specs.Code.{Program, most_of, repeat_at, Fits}
use Rattle.machine.specs.Moves.{Stack, Now, Move, go, strides, stopped, below, ends_of, fall, ran, bytes_of}
use Rattle.machine.specs.Words.{stack_of, configuration_of, now_of, Measured}
use Rattle.machine.specs.Ready.{Leads, Overruns, Missed, Asks, StackFits}
use Rattle.machine.specs.Laws.Code.{fits-at}
use Rattle.machine.specs.Laws.Loop.{Running, before-or, fits-now, move-run, leads-run, leads-join, running-start, ready-led, ReadyForSome, running-fits, running-stack, running-low}
use Rattle.machine.specs.Laws.Ends.{ends-passed, ends-none}
use Rattle.run_ends.proofs.Bytes.{length-strides}

-- The run's own steps -----------------------------------------------------------

module _ (p : Program) (pc k at : ℕ) (regs : List ℕ) (st : Stack) where
  pub ran-few : k < get_or p (pc + 2) 0 → (ran p (repeat_at p (pc + 2)) k at regs st).after ≡ fall p regs st
  unfolding ran repeat_at ends_of
  ran-few h = rw (lt-ltb k (get_or p (pc + 2) 0) h)

  pub ran-enough : get_or p (pc + 2) 0 ≤ k → (ran p (repeat_at p (pc + 2)) k at regs st).after ≡ go (get_or p (pc + 7) 0) (at + k) regs (below (get_or p (pc + 7) 0) (at + k) (at + get_or p (pc + 2) 0) st)
  unfolding ran repeat_at ends_of fall
  ran-enough h = let e : pc + 2 + 5 ≡ pc + 7 = omega arith in rw (le-ltb k (get_or p (pc + 2) 0) h, e)

-- A run that begins with the registers regs and the work area work, at m.
module _ (p sub regs work : List ℕ) (m : Machine) (left : ℕ) (is : get_or p m.pc 0 ≡ 10) (live : m.live ≡ true) (x : ReadyForSome p sub regs work m left) where
  abbrev here : Now
  here = now_of regs work m

  abbrev bytes : ℕ
  bytes = bytes_of p sub (repeat_at p (m.pc + 2)) 0 m.at

  abbrev made : ℕ → Move
  made k = ran p (repeat_at p (m.pc + 2)) k m.at regs (stack_of work m.height)

  at_first : Running p sub (length work) left x.0 x.1 0 here
  at_first = running-start p sub (length work) left x.0 x.1 here x.2

  pub run_fits : (m.pc + 8 ≤ length p) × (get_or p (m.pc + 6) 0 + 11 ≤ length p)
  run_fits = fits-at p m.pc 10 is (running-fits regs work m live at_first)

  pub run-stack : StackFits p (stack_of work m.height)
  run-stack = running-stack regs work m live at_first

  pub run-low : 1 ≤ left → 4 * m.height + 4 ≤ length work
  run-low h = omega (arith, running-low regs work m live at_first)

  led : Leads p sub here (suc (length (made bytes).more)) (made bytes).after
  led = let c = configuration_of regs work m in rw live (leads-run p sub c (made bytes) is (move-run p sub c is))

  -- `n` is what a run of k bytes costs
  module _ (k n : ℕ) (steps : (place at : ℕ) → n ≡ suc (length (strides k (stopped (is_full (most_of (get_or p (m.pc + 3) 0)) k) place at)))) (y : Measured p sub m.pc m.at left k) where
    steps-are : n ≡ suc (length (made k).more)
    unfolding ran repeat_at
    steps-are = let e : m.pc + 2 + 1 ≡ m.pc + 3 = omega arith in rw e (steps _ _)

    -- the steps are not enough, for the bytes that were looked at and so for all of them
    pub run_long : left < n → Overruns p sub here left
    unfolding ran
    run_long h =
        let l : left < suc (length (made bytes).more) = ⊎_elim (λ e. rw (← e) (omega (arith, steps-are))) (λ w. rw length-strides (omega (arith, w.0, w.1))) y in
        (suc (length (made bytes).more), (made bytes).after, l, led)

    module _ (h : n ≤ left) where
      -- they are enough only if no byte was left out
      all-bytes : k ≡ bytes
      all-bytes = ⊎_elim (λ e. e) (λ w. absurd (omega (arith, w.1, steps 0 0, length-strides k (stopped (is_full (most_of (get_or p (m.pc + 3) 0)) k) 0 0)))) y

      run-led : Leads p sub here n (made k).after
      run-led = rw (steps-are, all-bytes) led

      pub run-few : k < get_or p (m.pc + 2) 0 → Leads p sub here n (fall p regs (stack_of work m.height))
      run-few l = rw (ran-few p m.pc k m.at regs (stack_of work m.height) l) at run-led

      module _ (l : get_or p (m.pc + 2) 0 ≤ k) where
        abbrev next : ℕ
        next = get_or p (m.pc + 7) 0

        pub run-enough : Leads p sub here n (go next (m.at + k) regs (below next (m.at + k) (m.at + get_or p (m.pc + 2) 0) (stack_of work m.height)))
        run-enough = rw (ran-enough p m.pc k m.at regs (stack_of work m.height) l) at run-led

        pub run-next : Fits p next
        run-next = let r = ready-led p sub (length work) left x.0 x.1 x.2 run-enough h in fits-now p sub _ r.rest r.ready.emits

-- Its ends ----------------------------------------------------------------------

-- So many steps lead to the highest end; at n ends the node that follows fails.
module _ {p sub : List ℕ} {pc cost : ℕ} (f : ℕ → Bool) (asks : Asks p sub pc cost f) (high low : ℕ) (regs : List ℕ) (st : Stack) (ordered : low ≤ high) (n : ℕ) (missed : Missed sub f high n)
    (here : Now) (steps : ℕ) (l : Leads p sub here steps (go pc high regs (below pc high low st))) where
  pub left-some : n < high - low + 1 → Leads p sub here (steps + n * cost) (go pc (high - n) regs (below pc (high - n) low st))
  left-some h = leads-join p sub l (ends-passed f asks low regs st n high (omega arith) missed)

  pub left-none : n ≡ high - low + 1 → Leads p sub here (steps + n * cost) (fall p regs st)
  left-none h = leads-join p sub l (ends-none f asks low regs st n high ordered (omega arith) missed)

  pub left-long : {left : ℕ} → n ≤ high - low + 1 → left < steps + n * cost → Overruns p sub here left
  left-long h e =
      ⊎_elim (λ x. (steps + n * cost, go pc (high - n) regs (below pc (high - n) low st), e, left-some x)) (λ x. (steps + n * cost, fall p regs st, e, left-none (omega arith))) (before-or n (high - low + 1))
