-- The stack in the work area: a frame pushed, and the frame on top taken off. Assumes nothing.
use mathlib.Core.Path.{◌≡◌, refl, ◌∙◌}
use mathlib.Core.List.{List, ◌∷◌}
use Prim.Native.Nat.{ℕ, zero, suc, ◌+◌, ◌*◌, ◌-◌, ◌≤◌, ◌<◌}
use native.Mathlib.Omega.{arith}
use native.Mathlib.Numerals.{add-one}
use lib.ListN.{length, get_or, set, length-set}
use lib.Seq.{get_or-set_same, get_or-set_other}
use borrow.Author.Tests.{lt-ltb, le-ltb}
use Rattle.syntax.specs.Limits.{registers}
use Rattle.machine.specs.Code.{Program, repeat_at, RepeatFits}
use Rattle.machine.specs.Moves.{explore, undo, Stack, idle, set2, saved, go, go_set, begin, keep, cut, cut_to, descend, below, fall}
use Rattle.machine.specs.Words.{frame_of, frame_at, stack_of}
use Rattle.machine.specs.Ready.{StackFits}
use Rattle.machine.specs.Laws.Stack.{length-stack_of}

-- Pushing ------------------------------------------------------------------

abbrev pushed : List ℕ → ℕ → ℕ → ℕ → ℕ → ℕ → List ℕ
pushed w h kind a b c = set (set (set (set w (4 * h) kind) (4 * h + 1) a) (4 * h + 2) b) (4 * h + 3) c

-- frames below do not see what is written above them
stack_of-set : (w : List ℕ) (n i v : ℕ) → 4 * n ≤ i → stack_of (set w i v) n ≡ stack_of w n
unfolding stack_of frame_at
stack_of-set w zero i v h = refl
stack_of-set w (suc n) i v h =
    rw (get_or-set_other w i (4 * n) v 0 (omega arith), get_or-set_other w i (4 * n + 1) v 0 (omega arith), get_or-set_other w i (4 * n + 2) v 0 (omega arith), get_or-set_other w i (4 * n + 3) v 0 (omega arith), stack_of-set w n i v (omega arith))

low-set : (l : List ℕ) (i j v : ℕ) → i < j → get_or (set l j v) i 0 ≡ get_or l i 0
low-set l i j v h = get_or-set_other l j i v 0 (omega arith)

pub push-cons : (w : List ℕ) (h kind a b c : ℕ) → 4 * h + 4 ≤ length w → stack_of (pushed w h kind a b c) (h + 1) ≡ frame_of kind a b c ∷ stack_of w h
unfolding stack_of frame_at
push-cons w n kind a b c h =
    let w₀ : List ℕ = set w (4 * n) kind in
    let w₁ : List ℕ = set w₀ (4 * n + 1) a in
    let w₂ : List ℕ = set w₁ (4 * n + 2) b in
    let w₃ : List ℕ = set w₂ (4 * n + 3) c in
    let e₀ : get_or w₃ (4 * n) 0 ≡ kind = low-set w₂ _ _ c (omega arith) ∙ low-set w₁ _ _ b (omega arith) ∙ low-set w₀ _ _ a (omega arith) ∙ get_or-set_same w _ kind 0 (omega arith) in
    let e₁ : get_or w₃ (4 * n + 1) 0 ≡ a = low-set w₂ _ _ c (omega arith) ∙ low-set w₁ _ _ b (omega arith) ∙ get_or-set_same w₀ _ a 0 (simp length-set (omega arith)) in
    let e₂ : get_or w₃ (4 * n + 2) 0 ≡ b = low-set w₂ _ _ c (omega arith) ∙ get_or-set_same w₁ _ b 0 (simp length-set (omega arith)) in
    let e₃ : get_or w₃ (4 * n + 3) 0 ≡ c = get_or-set_same w₂ _ c 0 (simp length-set (omega arith)) in
    let e₄ : stack_of w₃ n ≡ stack_of w n = stack_of-set w₂ n _ c (omega arith) ∙ stack_of-set w₁ n _ b (omega arith) ∙ stack_of-set w₀ n _ a (omega arith) ∙ stack_of-set w n _ kind (omega arith) in
    rw (add-one n, e₀, e₁, e₂, e₃, e₄)

-- nor do those above see it
pub push-above : (w : List ℕ) (h kind a b c j : ℕ) → 4 * h + 4 ≤ j → get_or (pushed w h kind a b c) j 0 ≡ get_or w j 0
push-above w n kind a b c j h =
    let w₀ : List ℕ = set w (4 * n) kind in
    let w₁ : List ℕ = set w₀ (4 * n + 1) a in
    let w₂ : List ℕ = set w₁ (4 * n + 2) b in
    get_or-set_other w₂ (4 * n + 3) j c 0 (omega arith) ∙ get_or-set_other w₁ (4 * n + 2) j b 0 (omega arith) ∙ get_or-set_other w₀ (4 * n + 1) j a 0 (omega arith) ∙ get_or-set_other w (4 * n) j kind 0 (omega arith)

-- a frame to go on at, by three stores
pub push-node : (w : List ℕ) (h pc at : ℕ) → 4 * h + 4 ≤ length w → stack_of (set (set (set w (4 * h) 0) (4 * h + 1) pc) (4 * h + 2) at) (h + 1) ≡ explore pc at ∷ stack_of w h
unfolding stack_of frame_at frame_of
push-node w n pc at h =
    let w₀ : List ℕ = set w (4 * n) 0 in
    let w₁ : List ℕ = set w₀ (4 * n + 1) pc in
    let w₂ : List ℕ = set w₁ (4 * n + 2) at in
    let e₀ : get_or w₂ (4 * n) 0 ≡ 0 = low-set w₁ _ _ at (omega arith) ∙ low-set w₀ _ _ pc (omega arith) ∙ get_or-set_same w _ 0 0 (omega arith) in
    let e₁ : get_or w₂ (4 * n + 1) 0 ≡ pc = low-set w₁ _ _ at (omega arith) ∙ get_or-set_same w₀ _ pc 0 (simp length-set (omega arith)) in
    let e₂ : get_or w₂ (4 * n + 2) 0 ≡ at = get_or-set_same w₁ _ at 0 (simp length-set (omega arith)) in
    let e₃ : stack_of w₂ n ≡ stack_of w n = stack_of-set w₁ n _ at (omega arith) ∙ stack_of-set w₀ n _ pc (omega arith) ∙ stack_of-set w n _ 0 (omega arith) in
    rw (add-one n, e₀, e₁, e₂, e₃)

pub go-pushed : (pc at h h' : ℕ) (regs work : List ℕ) {st : Stack} → h' ≡ h + 1 → stack_of work (h + 1) ≡ st → go pc at regs (stack_of work h') ≡ go pc at regs st
go-pushed pc at h h' regs work e f = rw (e, f)

pub go-saved : (pc at h h' i x y : ℕ) (regs regs' work work' : List ℕ) → h' ≡ h + 1 → regs' ≡ set2 regs i x y → stack_of work' (h + 1) ≡ saved regs i ∷ stack_of work h → go pc at regs' (stack_of work' h') ≡ go_set i x y pc at regs (stack_of work h)
go-saved pc at h h' i x y regs regs' work work' e f g = rw (e, f, g)

pub begin-saved : (p : Program) (q n at h h' : ℕ) (regs regs' work work' : List ℕ) → h' ≡ h + 1 → regs' ≡ set2 regs (get_or p (q + 3) 0) n at → stack_of work' (h + 1) ≡ saved regs (get_or p (q + 3) 0) ∷ stack_of work h
    → go (get_or p (q + 4) 0) at regs' (stack_of work' h') ≡ begin (repeat_at p q) n at regs (stack_of work h)
unfolding begin repeat_at
begin-saved p q n at h h' regs regs' work work' e f g = go-saved _ at h h' (get_or p (q + 3) 0) n at regs regs' work work' e f g

-- the positions below the one to go on from, if there are any
module _ (pc high low : ℕ) (regs : List ℕ) where
  pub down-some : (h h' : ℕ) (work work' : List ℕ) → low < high → h' ≡ h + 1 → stack_of work' (h + 1) ≡ frame_of 2 pc (high - 1) low ∷ stack_of work h → go pc high regs (stack_of work' h') ≡ go pc high regs (below pc high low (stack_of work h))
  unfolding descend frame_of
  down-some h h' work work' l e f = rw (e, f, lt-ltb low high l)

  pub down-none : (st : Stack) → high ≤ low → go pc high regs st ≡ go pc high regs (below pc high low st)
  unfolding descend
  down-none st l = rw (le-ltb low high l)

-- Taking off -----------------------------------------------------------------

stack-pop : (w : List ℕ) (h : ℕ) → 0 < h → stack_of w h ≡ frame_at w (h - 1) ∷ stack_of w (h - 1)
unfolding stack_of
stack-pop w zero s = absurd (omega arith)
stack-pop w (suc h) s = let e : suc h - 1 ≡ h = omega arith in rw e

frame-undo : (kind a b c : ℕ) → (kind ≡ 0 → ⊥) → (kind ≡ 1 → ⊥) → (kind ≡ 2 → ⊥) → frame_of kind a b c ≡ undo b a c
unfolding frame_of
frame-undo zero a b c x y z = absurd (x refl)
frame-undo (suc zero) a b c x y z = absurd (y refl)
frame-undo (suc (suc zero)) a b c x y z = absurd (z refl)
frame-undo (suc (suc (suc n))) a b c x y z = refl

-- the only kind that is left
pub only-stretch : (kind : ℕ) → kind < 3 → (kind ≡ 0 → ⊥) → (kind ≡ 1 → ⊥) → kind ≡ 2
only-stretch kind h x y = omega arith

module _ (p : Program) (w : List ℕ) (h : ℕ) (some : 0 < h) where
  abbrev top : ℕ → ℕ
  top i = get_or w (4 * (h - 1) + i) 0

  abbrev kind : ℕ
  kind = get_or w (4 * (h - 1)) 0

  pub pop-explore : (regs : List ℕ) → kind ≡ 0 → fall p regs (stack_of w h) ≡ go (top 1) (top 2) regs (stack_of w (h - 1))
  unfolding fall frame_at frame_of
  pop-explore regs e = rw (stack-pop w h some, e)

  pub pop-again : (regs : List ℕ) → kind ≡ 1 → fall p regs (stack_of w h) ≡ begin (repeat_at p (top 1)) (top 2) (top 3) regs (stack_of w (h - 1))
  unfolding fall frame_at frame_of
  pop-again regs e = rw (stack-pop w h some, e)

  pub pop-stretch : (regs : List ℕ) → kind ≡ 2 → fall p regs (stack_of w h) ≡ go (top 1) (top 2) regs (below (top 1) (top 2) (top 3) (stack_of w (h - 1)))
  unfolding fall frame_at frame_of
  pop-stretch regs e = rw (stack-pop w h some, e)

  pub pop-undo : (regs : List ℕ) → (kind ≡ 0 → ⊥) → (kind ≡ 1 → ⊥) → (kind ≡ 2 → ⊥) → fall p regs (stack_of w h) ≡ fall p (set2 regs (top 2) (top 1) (top 3)) (stack_of w (h - 1))
  unfolding fall frame_at
  pop-undo regs x y z = rw (stack-pop w h some, frame-undo kind (top 1) (top 2) (top 3) x y z)

  module _ (f : StackFits p (stack_of w h)) where
    popped : StackFits p (frame_at w (h - 1) ∷ stack_of w (h - 1))
    popped = rw (stack-pop w h some) at f

    pub fits-rest : StackFits p (stack_of w (h - 1))
    fits-rest = popped.1

    pub fits-again : kind ≡ 1 → RepeatFits p (top 1)
    unfolding frame_at frame_of
    fits-again e = rw e at popped.0

    pub fits-undo : (kind ≡ 0 → ⊥) → (kind ≡ 1 → ⊥) → (kind ≡ 2 → ⊥) → top 2 + 2 ≤ registers
    unfolding frame_at
    fits-undo x y z = rw (frame-undo kind (top 1) (top 2) (top 3) x y z) at popped.0

pub pop-none : (p : Program) (w : List ℕ) (h : ℕ) (regs : List ℕ) → h ≤ 0 → fall p regs (stack_of w h) ≡ idle regs
unfolding fall stack_of
pop-none p w zero regs e = refl
pop-none p w (suc h) regs e = absurd (omega arith)

-- Giving up ------------------------------------------------------------------

module _ (w : List ℕ) (i : ℕ) (st : Stack) where
  pub keep-choice : get_or w (4 * i) 0 < 3 → keep (frame_at w i) st ≡ st
  unfolding frame_at frame_of
  keep-choice h = by (get_or w (4 * i) 0) h
    where
      by : (kind : ℕ) → kind < 3 → keep (frame_of kind (get_or w (4 * i + 1) 0) (get_or w (4 * i + 2) 0) (get_or w (4 * i + 3) 0)) st ≡ st
      by zero l = refl
      by (suc zero) l = refl
      by (suc (suc zero)) l = refl
      by (suc (suc (suc n))) l = absurd (omega arith)

  pub keep-undone : 3 ≤ get_or w (4 * i) 0 → keep (frame_at w i) st ≡ frame_at w i ∷ st
  unfolding frame_at
  keep-undone h = rw (frame-undo (get_or w (4 * i) 0) (get_or w (4 * i + 1) 0) (get_or w (4 * i + 2) 0) (get_or w (4 * i + 3) 0) (λ e. omega arith) (λ e. omega arith) (λ e. omega arith))

-- The frames from `mark` up to i are looked at, and h frames are left; from i on the area is as it was.
pub record Cutting (work₀ : List ℕ) (height mark : ℕ) (work : List ℕ) (h i : ℕ) : Type 0 where
  pub from : mark ≤ i
  pub below : i ≤ height
  pub low : h ≤ i
  pub size : length work ≡ length work₀
  pub cuts : stack_of work h ≡ cut (i - mark) (stack_of work₀ i)
  pub above : (j : ℕ) → 4 * i ≤ j → get_or work j 0 ≡ get_or work₀ j 0

pub cutting-start : (work₀ : List ℕ) (height mark : ℕ) → mark ≤ height → Cutting work₀ height mark work₀ mark mark
unfolding cut
cutting-start work₀ height mark l = let z : mark - mark ≡ 0 = omega arith in record { from = omega arith; below = l; low = omega arith; size = refl; cuts = rw z; above = λ j h. refl }

pub cutting-on : {work₀ : List ℕ} {height mark : ℕ} {work : List ℕ} {h i : ℕ} → Cutting work₀ height mark work h i → i < height → (work' : List ℕ) (r : ℕ) → r ≤ h + 1 → length work' ≡ length work → stack_of work' r ≡ keep (frame_at work i) (stack_of work h)
    → ((j : ℕ) → 4 * i + 4 ≤ j → get_or work' j 0 ≡ get_or work j 0) → Cutting work₀ height mark work' r (i + 1)
unfolding cut stack_of frame_at
cutting-on {work₀} {height} {mark} {work} {h} {i} g l work' r few size e same =
    let z : i + 1 - mark ≡ suc (i - mark) = omega (arith, g.from) in
    let f : frame_at work i ≡ frame_at work₀ i = rw (g.above (4 * i) (omega arith), g.above (4 * i + 1) (omega arith), g.above (4 * i + 2) (omega arith), g.above (4 * i + 3) (omega arith)) in
    record {
      from = omega (arith, g.from);
      below = omega arith;
      low = omega (arith, g.low);
      size = size ∙ g.size;
      cuts = e ∙ rw (z, add-one i, f, g.cuts);
      above = λ j x. same j (omega arith) ∙ g.above j (omega arith);
    }

pub cutting-done : {work₀ : List ℕ} {height mark : ℕ} {work : List ℕ} {h i : ℕ} → Cutting work₀ height mark work h i → height ≤ i → stack_of work h ≡ cut_to mark (stack_of work₀ height)
cutting-done {work₀} {height} {mark} {work} {h} {i} g l = let z : i ≡ height = omega (arith, g.below) in rw (length-stack_of work₀ height, ← z) g.cuts

-- nothing stands above the mark
pub cut-none : (work : List ℕ) (height mark : ℕ) → height ≤ mark → stack_of work height ≡ cut_to mark (stack_of work height)
unfolding cut
cut-none work height mark l = let z : height - mark ≡ 0 = omega arith in rw (length-stack_of work height, z)
