-- The invariant of the loops over the moves of a walk from one start: the machine is ready for what is left, with x told by now.
use Rattle.std.specs.Prelude as option
use mathlib.Core.Path.{◌≡◌, refl, sym, ◌∙◌, subst}
use mathlib.Core.List.{List, []}
use mathlib.Core.Bool.{true, false}
use Prim.Native.Nat.{ℕ, ◌+◌, ◌*◌, ◌-◌, ◌^◌, ◌≤◌, ◌<◌}
use native.Mathlib.Omega.{arith}
use lib.ListN.{length, get_or}
use Rattle.semantics.specs.Walk.{Trace}
use Rattle.machine.specs.declared.Machine.{Machine}
use Rattle.machine.specs.Code.{decode, Fits}
use Rattle.machine.specs.Moves.{Configuration, Now, busy, go, carry_out, move}
use Rattle.machine.specs.Words.{stack_of, configuration_of, now_of}
use Rattle.machine.specs.Ready.{StackFits}
use Rattle.machine.specs.Laws.Run.{Account}
use Rattle.machine.specs.Laws.Stack.{length-stack_of}
use Rattle.plain.specs.declared.Miss.{Miss}
use Rattle.plain.specs.declared.Refuted as late
use Rattle.plain.specs.declared.Told.{Told}
use Rattle.plain.specs.declared.Told.TheVariants.{Item, Refuted}
use Rattle.plain.specs.Telling.{notes, leads, hears_all, hears_by}
use Rattle.plain.specs.Misses.{missed_of, TellsLate}
use Rattle.failures.specs.Walks.{Plain, Tried}
use Rattle.failures.specs.Laws.Accounts.{tells_all, tells_by, Steady, hears-missed, hears-plain}
use Rattle.failures.specs.Laws.Walks.{after, plain-idle, plain_fits, plain-some, plain-low, plain-high, plain-no_end, plain-move}

-- A walk from the start `begin`, with the registers regs₀ and the work area work₀, and x₀ told before it.
module _ (p sub regs₀ work₀ : List ℕ) (entry begin budget : ℕ) (A : Account) (x₀ : A.X) where
  abbrev pub PlainAtFirst : List ℕ → Trace → A.X → Type 0
  PlainAtFirst first t final = Plain p sub A final (length work₀) budget first x₀ (go entry begin regs₀ []) t

  pub record Trying (x : A.X) (regs work : List ℕ) (rest : ℕ) (m : Machine) : Type 0 where
    pub size : length regs ≡ length regs₀
    pub wide : length work ≡ length work₀
    pub some : (first : List ℕ) × (t : Trace) × (final : A.X) × PlainAtFirst first t final
    pub tries : (first : List ℕ) (t : Trace) (final : A.X) → PlainAtFirst first t final → (left : Trace) × Plain p sub A final (length work₀) rest first x (now_of regs work m) left

  pub trying_start : (first : List ℕ) × (t : Trace) × (final : A.X) × PlainAtFirst first t final → (m : Machine) → ((regs work : List ℕ) → now_of regs work m ≡ go entry begin regs []) → (x : A.X) → x ≡ x₀ → Trying x regs₀ work₀ budget m
  trying_start y m e x same = record {
    size = refl;
    wide = refl;
    some = y;
    tries = λ first t final z. (t, rw same (subst (λ (now : Now). Plain p sub A final (length work₀) budget first x₀ now t) (sym (e regs₀ work₀)) z));
  }

module _ {p sub regs₀ work₀ : List ℕ} {entry begin budget : ℕ} {A : Account} {x₀ x : A.X} {regs work : List ℕ} {rest : ℕ} {m : Machine} (g : Trying p sub regs₀ work₀ entry begin budget A x₀ x regs work rest m) where
  pub trying-end : m.live ≡ false → (first : List ℕ) (t : Trace) (final : A.X) → PlainAtFirst p sub regs₀ work₀ entry begin budget A x₀ first t final → (regs ≡ first) × (x ≡ final)
  trying-end e first t final y = plain-idle p sub A final {regs = regs} (rw e at (g.tries first t final y).1)

  module _ (live : m.live ≡ true) where
    abbrev here : Configuration
    here = configuration_of regs work m

    at_work : (first : List ℕ) (t : Trace) (final : A.X) (y : PlainAtFirst p sub regs₀ work₀ entry begin budget A x₀ first t final) → Plain p sub A final (length work₀) rest first x (busy here) (g.tries first t final y).0
    at_work first t final y = rw live at (g.tries first t final y).1

    one : Plain p sub A g.some.2 (length work₀) rest g.some.0 x (busy here) (g.tries g.some.0 g.some.1 g.some.2 g.some.3).0
    one = at_work g.some.0 g.some.1 g.some.2 g.some.3

    pub trying-fits : Fits p m.pc
    trying-fits = plain_fits p sub A g.some.2 one

    pub trying-stack : StackFits p (stack_of work m.height)
    trying-stack = one.fits

    pub trying-low : 4 * m.height + 8 ≤ length work
    trying-low = omega (arith, plain-low p sub A g.some.2 one, length-stack_of work m.height, g.wide)

    pub trying-high : m.height < 2 ^ 32
    trying-high = omega (arith, plain-high p sub A g.some.2 one, length-stack_of work m.height)

    pub trying-no-end : get_or p m.pc 0 ≡ 9 → ⊥
    trying-no-end = plain-no_end p sub A g.some.2 one

    pub trying-some : 1 ≤ rest
    trying-some = plain-some p sub A g.some.2 one

    -- what is told after a move
    told-late : (r : late.Refuted) → get_or p m.pc 0 ≡ 17 → TellsLate p regs m r → after p sub A g.some.2 x here ≡ A.settle r.note r.place x
    unfolding move decode notes carry_out hears_by hears_all
    told-late r k e = rw (k, e.note, e.place)

    told-now : (r : option.Option Miss) → Steady A → Tried p sub regs m (Item r) → after p sub A g.some.2 x here ≡ tells_all A x (missed_of begin r)
    told-now r steady e = hears-plain A p sub here x e.0 ∙ hears-missed A steady begin x _ r (e.1 begin work)

    -- a move, after which y is told
    pub trying-on : (steady : Steady A) (told : Told) → Tried p sub regs m told → (y : A.X) → y ≡ tells_by A begin x told
        → (regs' work' : List ℕ) (m' : Machine) → now_of regs' work' m' ≡ leads p sub (A.note x m.at) here → length regs' ≡ length regs → length work' ≡ length work
        → Trying p sub regs₀ work₀ entry begin budget A x₀ y regs' work' (rest - 1) m'
    unfolding tells_by
    trying-on steady told tried y l regs' work' m' e s s' = record {
      size = s ∙ g.size;
      wide = s' ∙ g.wide;
      some = g.some;
      tries = λ first t final z. (let w = plain-move p sub A final (at_work first t final z) in (w.0, rw (e, l ∙ said told tried) w.1));
    }
      where
        said : (told : Told) → Tried p sub regs m told → tells_by A begin x told ≡ after p sub A g.some.2 x here
        said (Refuted r) t = sym (told-late r t.0 t.1)
        said (Item r) t = sym (told-now r steady t)
