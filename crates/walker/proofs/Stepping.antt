-- One node as the code carries it out, and the invariant of the loop that walks over nodes of one step. Assumes nothing.
use mathlib.Core.Path.{◌≡◌, refl, ap, sym, ◌∙◌}
use mathlib.Core.List.{List, []}
use mathlib.Core.Bool.{Bool, true, false}
use Prim.Native.Nat.{ℕ, zero, suc, ◌+◌, ◌*◌, ◌-◌, ◌^◌, ◌≤◌, ◌<◌}
use native.Mathlib.Omega.{arith}
use lib.ListN.{length, get_or}
use Rattle.syntax.specs.declared.Greed.TheVariants.{Greedy, Lazy}
use Rattle.semantics.specs.Repeats.{Next, round, leave, either}
use Rattle.semantics.specs.Walk.{Trace}
use Rattle.machine.specs.declared.Machine.{Machine}
use Rattle.machine.specs.Code.{Program, decode_as, decode, FitsAs, Fits}
use Rattle.machine.specs.Moves.{Stack, Configuration, Now, idle, busy, begin, decided, decides, carry_out, move}
use Rattle.machine.specs.Words.{stack_of, configuration_of, pick_now, now_of, moved_on, carried}
use Rattle.machine.specs.Ready.{Leads, stay, onward, StackFits, Ready}
use Rattle.machine.specs.Laws.Loop.{Running, ready-led, leads-several, leads-join, ReadyForSome, running-fits, running-stack, running-low, running-short}

pub moved_as : (p sub regs work : List ℕ) (m : Machine) (n : ℕ) → get_or p m.pc 0 ≡ n → moved_on p sub regs work m ≡ carried n p sub regs work m
unfolding move decode
moved_as p sub regs work m n e = ap (λ (k : ℕ). carried k p sub regs work m) e

-- the only kind that is left
pub only-loop : (n : ℕ) → n ≤ 8 → (n ≡ 0 → ⊥) → (n ≡ 1 → ⊥) → (n ≡ 2 → ⊥) → (n ≡ 3 → ⊥) → (n ≡ 4 → ⊥) → (n ≡ 5 → ⊥) → (n ≡ 6 → ⊥) → (n ≡ 7 → ⊥) → n ≡ 8
only-loop n h a b c d e f g i = high n h (low n a b c d) e f g i
  where
    low : (n : ℕ) → (n ≡ 0 → ⊥) → (n ≡ 1 → ⊥) → (n ≡ 2 → ⊥) → (n ≡ 3 → ⊥) → 4 ≤ n
    low n a b c d = omega arith

    high : (n : ℕ) → n ≤ 8 → 4 ≤ n → (n ≡ 4 → ⊥) → (n ≡ 5 → ⊥) → (n ≡ 6 → ⊥) → (n ≡ 7 → ⊥) → n ≡ 8
    high n h l e f g i = omega arith

-- one node
pub one-node : (p sub regs work regs' work' : List ℕ) (m m' : Machine) → m.live ≡ true → get_or p m.pc 0 ≤ 8 → now_of regs' work' m' ≡ moved_on p sub regs work m → Leads p sub (now_of regs work m) 1 (now_of regs' work' m')
one-node p sub regs work regs' work' m m' live k e = rw (e, live) (onward stay k)

-- one node of a held part or of looking ahead
marked-single : (p sub : List ℕ) (n pc at : ℕ) (regs : List ℕ) (st : Stack) → 13 ≤ n → FitsAs n p pc → (carry_out p sub (decode_as n p pc) at regs st).more ≡ []
unfolding carry_out
marked-single p sub zero pc at regs st h f = absurd (omega arith)
marked-single p sub (suc zero) pc at regs st h f = absurd (omega arith)
marked-single p sub (suc (suc zero)) pc at regs st h f = absurd (omega arith)
marked-single p sub (suc (suc (suc zero))) pc at regs st h f = absurd (omega arith)
marked-single p sub (suc (suc (suc (suc zero)))) pc at regs st h f = absurd (omega arith)
marked-single p sub (suc (suc (suc (suc (suc zero))))) pc at regs st h f = absurd (omega arith)
marked-single p sub (suc (suc (suc (suc (suc (suc zero)))))) pc at regs st h f = absurd (omega arith)
marked-single p sub (suc (suc (suc (suc (suc (suc (suc zero))))))) pc at regs st h f = absurd (omega arith)
marked-single p sub (suc (suc (suc (suc (suc (suc (suc (suc zero)))))))) pc at regs st h f = absurd (omega arith)
marked-single p sub (suc (suc (suc (suc (suc (suc (suc (suc (suc zero))))))))) pc at regs st h f = absurd (omega arith)
marked-single p sub (suc (suc (suc (suc (suc (suc (suc (suc (suc (suc zero)))))))))) pc at regs st h f = absurd (omega arith)
marked-single p sub (suc (suc (suc (suc (suc (suc (suc (suc (suc (suc (suc zero))))))))))) pc at regs st h f = absurd (omega arith)
marked-single p sub (suc (suc (suc (suc (suc (suc (suc (suc (suc (suc (suc (suc zero)))))))))))) pc at regs st h f = absurd (omega arith)
marked-single p sub (suc (suc (suc (suc (suc (suc (suc (suc (suc (suc (suc (suc (suc zero))))))))))))) pc at regs st h f = refl
marked-single p sub (suc (suc (suc (suc (suc (suc (suc (suc (suc (suc (suc (suc (suc (suc zero)))))))))))))) pc at regs st h f = refl
marked-single p sub (suc (suc (suc (suc (suc (suc (suc (suc (suc (suc (suc (suc (suc (suc (suc zero))))))))))))))) pc at regs st h f = refl
marked-single p sub (suc (suc (suc (suc (suc (suc (suc (suc (suc (suc (suc (suc (suc (suc (suc (suc zero)))))))))))))))) pc at regs st h f = refl
marked-single p sub (suc (suc (suc (suc (suc (suc (suc (suc (suc (suc (suc (suc (suc (suc (suc (suc (suc zero))))))))))))))))) pc at regs st h f = refl
marked-single p sub (suc (suc (suc (suc (suc (suc (suc (suc (suc (suc (suc (suc (suc (suc (suc (suc (suc (suc n)))))))))))))))))) pc at regs st h f = absurd f

pub one-marked : (p sub regs work regs' work' : List ℕ) (m m' : Machine) → m.live ≡ true → 13 ≤ get_or p m.pc 0 → Fits p m.pc → now_of regs' work' m' ≡ moved_on p sub regs work m → Leads p sub (now_of regs work m) 1 (now_of regs' work' m')
unfolding move decode
one-marked p sub regs work regs' work' m m' live k f e =
    let c = configuration_of regs work m in
    rw (e, live) (rw (marked-single p sub (get_or p m.pc 0) m.pc m.at regs (stack_of work m.height) k f.node) at (leads-several p sub c (move p sub c) (omega arith) refl))

pub only-marked : (n : ℕ) → 10 ≤ n → (n ≡ 10 → ⊥) → (n ≡ 11 → ⊥) → (n ≡ 12 → ⊥) → 13 ≤ n
only-marked n h x y z = omega arith

-- what is no node of one step and no end
pub several : (n : ℕ) → 8 < n → (n ≡ 9 → ⊥) → 10 ≤ n
several n h x = omega arith

-- Nodes that the machine is at work behind: the end of a group, and the end of a round.
abbrev at_work : Now → Bool
at_work (idle regs) = false
at_work (busy c) = true

abbrev node_of : Now → ℕ
node_of (idle regs) = 0
node_of (busy c) = c.pc

picked : (b : Bool) (c : Configuration) (regs : List ℕ) → b ≡ at_work (pick_now b (busy c) (idle regs))
picked true c regs = refl
picked false c regs = refl

decided-on : (p : Program) (d : Next) (q n at : ℕ) (regs : List ℕ) (st : Stack) → at_work (decided p d q n at regs st) ≡ true
unfolding decided begin
decided-on p round q n at regs st = refl
decided-on p leave q n at regs st = refl
decided-on p (either Greedy) q n at regs st = refl
decided-on p (either Lazy) q n at regs st = refl

module _ (p sub regs work regs' work' : List ℕ) (m m' : Machine) where
  live-as : {now : Now} → now_of regs' work' m' ≡ now → m'.live ≡ at_work now
  live-as e = picked m'.live (configuration_of regs' work' m') regs' ∙ ap at_work e

  pub live-closed : now_of regs' work' m' ≡ carried 4 p sub regs work m → m'.live ≡ true
  unfolding carry_out
  live-closed e = live-as e

  -- the node behind it
  pub pc-closed : m'.live ≡ true → now_of regs' work' m' ≡ carried 4 p sub regs work m → m'.pc ≡ get_or p (m.pc + 1) 0
  unfolding carry_out
  pc-closed live e = rw live at (ap node_of e)

  pub live-ended : now_of regs' work' m' ≡ carried 8 p sub regs work m → m'.live ≡ true
  unfolding carry_out decides
  live-ended e = live-as e ∙ decided-on p _ (m.pc + 1) _ m.at regs (stack_of work m.height)

-- The steps used, where `rest` of `left` are left.
pub used-none : (left : ℕ) → left - left ≡ 0
used-none left = omega arith

pub used_all : (left rest : ℕ) → rest ≡ 0 → left - rest ≡ left
used_all left rest e = omega arith

pub rest-again : (left rest : ℕ) → rest ≤ left → left - (left - rest) ≡ rest
rest-again left rest h = omega arith

pub used-more : (left rest n : ℕ) → rest ≤ left → n ≤ rest → left - (rest - n) ≡ (left - rest) + n
used-more left rest n h k = omega arith

-- A walk that begins with the registers regs₀ and the work area work₀, at m₀.
module _ (p sub regs₀ work₀ : List ℕ) (m₀ : Machine) (left : ℕ) where
  pub record Stepping (regs work : List ℕ) (rest : ℕ) (m : Machine) : Type 0 where
    pub size : length regs ≡ length regs₀
    pub wide : length work ≡ length work₀
    pub few : rest ≤ left
    pub some : ReadyForSome p sub regs₀ work₀ m₀ left
    pub begins : rest ≡ left → m ≡ m₀
    pub leads : Leads p sub (now_of regs₀ work₀ m₀) (left - rest) (now_of regs work m)

  pub stepping-start : ReadyForSome p sub regs₀ work₀ m₀ left → Stepping regs₀ work₀ left m₀
  stepping-start x = record { size = refl; wide = refl; few = omega arith; some = x; begins = λ e. refl; leads = rw (used-none left) stay }

module _ {p sub regs₀ work₀ : List ℕ} {m₀ : Machine} {left : ℕ} {regs work : List ℕ} {rest : ℕ} {m : Machine} (g : Stepping p sub regs₀ work₀ m₀ left regs work rest m) where
  running : Running p sub (length work₀) left g.some.0 g.some.1 (left - rest) (now_of regs work m)
  running = ready-led p sub (length work₀) left g.some.0 g.some.1 g.some.2 g.leads (omega arith)

  pub stepping-ready : (first : List ℕ) × (t : Trace) × Ready p sub (length work) rest first (now_of regs work m) t
  stepping-ready = (g.some.0, running.rest, rw g.wide (rw (rest-again left rest g.few) at running.ready))

  -- where it does not stand at such a node, at least one was walked
  some-steps : (rest ≡ left → ⊥) → 1 ≤ left - rest
  some-steps h = omega (arith, g.few)

  pub stepping-past : get_or p m₀.pc 0 ≤ 8 → 8 < get_or p m.pc 0 → 1 ≤ left - rest
  stepping-past h k = some-steps (λ e. let z : m.pc ≡ m₀.pc = ap (λ (x : Machine). x.pc) (g.begins e) in let k' : 8 < get_or p m₀.pc 0 = rw z at k in omega arith)

  pub stepping-idle : m₀.live ≡ true → m.live ≡ false → 1 ≤ left - rest
  stepping-idle h k = some-steps (λ e. let z : m.live ≡ m₀.live = ap (λ (x : Machine). x.live) (g.begins e) in let y : ◌≡◌ {A = ℕ} 0 1 = cc in omega arith)

  -- nodes in a row
  pub stepping-more : (regs' work' : List ℕ) (m' : Machine) (n : ℕ) → 1 ≤ n → n ≤ rest → Leads p sub (now_of regs work m) n (now_of regs' work' m') → length regs' ≡ length regs → length work' ≡ length work
      → Stepping p sub regs₀ work₀ m₀ left regs' work' (rest - n) m'
  stepping-more regs' work' m' n one h l s s' = record {
    size = s ∙ g.size;
    wide = s' ∙ g.wide;
    few = omega (arith, g.few);
    some = g.some;
    begins = λ e. absurd (omega (arith, g.few));
    leads = rw (used-more left rest n g.few h) (leads-join p sub g.leads l);
  }

  -- one node, of a known kind
  pub stepping-node : (n : ℕ) → m.live ≡ true → get_or p m.pc 0 ≡ n → n ≤ 8 → 1 ≤ rest → (regs' work' : List ℕ) (m' : Machine) → now_of regs' work' m' ≡ carried n p sub regs work m → length regs' ≡ length regs → length work' ≡ length work
      → Stepping p sub regs₀ work₀ m₀ left regs' work' (rest - 1) m'
  stepping-node n live is k h regs' work' m' e s s' = stepping-more regs' work' m' 1 (omega arith) h (one-node p sub regs work regs' work' m m' live (omega arith) (e ∙ sym (moved_as p sub regs work m n is))) s s'

  -- the same, by the steps that are left
  pub stepping-to : (regs' work' : List ℕ) (m' : Machine) (r : ℕ) → r < rest → Leads p sub (now_of regs work m) (rest - r) (now_of regs' work' m') → length regs' ≡ length regs → length work' ≡ length work
      → Stepping p sub regs₀ work₀ m₀ left regs' work' r m'
  stepping-to regs' work' m' r h l s s' = rw (rest-again rest r (omega arith)) at (stepping-more regs' work' m' (rest - r) (omega arith) (omega arith) l s s')

  module _ (live : m.live ≡ true) where
    pub stepping-fits : Fits p m.pc
    stepping-fits = running-fits regs work m live running

    pub stepping-stack : StackFits p (stack_of work m.height)
    stepping-stack = running-stack regs work m live running

    pub stepping-low : 4 * m.height + 8 * rest ≤ length work
    stepping-low = rw g.wide (rw (rest-again left rest g.few) at (running-low regs work m live running))

    pub stepping-short : m.height < 2 ^ 32
    stepping-short = running-short regs work m live running

-- the second and the third node, with the steps left counted from the beginning
module _ {p sub regs₀ work₀ : List ℕ} {m₀ : Machine} {left : ℕ} {regs work : List ℕ} {m : Machine} where
  pub stepping-two : Stepping p sub regs₀ work₀ m₀ left regs work (left - 1 - 1) m → Stepping p sub regs₀ work₀ m₀ left regs work (left - 2) m
  stepping-two g = let z : left - 1 - 1 ≡ left - 2 = omega arith in rw z at g

  pub stepping-three : Stepping p sub regs₀ work₀ m₀ left regs work (left - 2 - 1) m → Stepping p sub regs₀ work₀ m₀ left regs work (left - 3) m
  stepping-three g = let z : left - 2 - 1 ≡ left - 3 = omega arith in rw z at g
