-- A search: it knows as much after a turn as before, and with nothing left it knows the opening.
use Rattle.std.specs.Prelude.{◌≡◌, refl, List, [], ◌∷◌, ◌++◌, Bool, true, false, ◌&&◌, ◌||◌, ℕ, zero, suc, ◌+◌, ◌-◌, ◌≤◌, ◌<◌, length, get_or, drop, set, ltb}
use Rattle.std.proofs.Common.{sym, ◌∙◌, add-one, length-set, get_or-set_same, get_or-set_other, ltb-true}
use Rattle.std.proofs.Math.Logic.{inr, ⊎_elim}
use native.Mathlib.Omega.{arith}
use Rattle.charset.specs.Class.{has}
use Rattle.syntax.specs.Read.{byte}
use Rattle.machine.specs.Moves.{Bytes, takes}
use Rattle.machine.specs.Laws.Extent.{byte_small}
use Rattle.openings.specs.declared.finding.Search.{Search}
use Rattle.openings.specs.Openings.{Outside, Skips}
use Rattle.openings.specs.Failing.{AllFail, Reduces, nobody, pending_of, waiting, counted, pushed, Widened, Told, Follows}
use Rattle.openings.specs.Laws.Leading.{fails-until, all_split}

-- Nodes that wait -----------------------------------------------------------------------

-- what is stored above the topmost changes nothing
pending-above : (held : List ℕ) (h i x : ℕ) → h ≤ i → pending_of (set held i x) h ≡ pending_of held h
unfolding pending_of
pending-above held zero i x l = refl
pending-above held (suc h) i x l = rw (get_or-set_other held i h x 0 (omega arith), pending-above held h i x (omega arith))

pending-pushed : (held : List ℕ) (h x : ℕ) → h < length held → pending_of (set held h x) (h + 1) ≡ x ∷ pending_of held h
unfolding pending_of
pending-pushed held h x l = rw (add-one h, get_or-set_same held h x 0 l, pending-above held h h x (omega arith))

pending-popped : (held : List ℕ) (h : ℕ) → 1 ≤ h → pending_of held h ≡ get_or held (h - 1) 0 ∷ pending_of held (h - 1)
unfolding pending_of
pending-popped held zero l = absurd (omega arith)
pending-popped held (suc h) l = let z : suc h - 1 ≡ h = omega arith in rw z

-- Bytes that begin ------------------------------------------------------------------------

takes-nobody : (sub : List ℕ) (at : ℕ) → takes sub nobody at ≡ false
unfolding takes
takes-nobody sub at = by (ltb at (length sub))
  where
    by : (b : Bool) → (b && false) ≡ false
    by true = refl
    by false = refl

-- a byte that is in neither of two sets is not in a set that has both
takes-both : (sub : List ℕ) (at : ℕ) (f g h : ℕ → Bool) → Bytes sub → ((x : ℕ) → x < 256 → h x ≡ (f x || g x)) → takes sub h at ≡ false → (takes sub f at ≡ false) × (takes sub g at ≡ false)
unfolding takes
takes-both sub at f g h bytes e n = by (ltb at (length sub)) refl n
  where
    split : (a b c : Bool) → c ≡ (a || b) → c ≡ false → (a ≡ false) × (b ≡ false)
    split true b c e n = let z : ◌≡◌ {A = ℕ} 0 1 = cc in absurd (omega arith)
    split false b c e n = (refl, sym e ∙ n)

    by : (b : Bool) → ltb at (length sub) ≡ b → (b && h (byte sub at)) ≡ false → ((b && f (byte sub at)) ≡ false) × ((b && g (byte sub at)) ≡ false)
    by true l n = split (f (byte sub at)) (g (byte sub at)) (h (byte sub at)) (e (byte sub at) (byte_small sub bytes at (ltb-true at (length sub) l))) n
    by false l n = (refl, refl)

-- what is outside of a search's set is outside of another's, and takes no byte of a set
Narrows : (r s : Search) (f : ℕ → Bool) → Type 0
Narrows r s f = (sub : List ℕ) (at : ℕ) → Bytes sub → Outside r.set r.any sub at → Outside s.set s.any sub at × (takes sub f at ≡ false)

narrows_same : (r s : Search) → r.set ≡ s.set → r.any ≡ s.any → Narrows r s nobody
unfolding Narrows
narrows_same r s e e' sub at bytes o = (rw (e, e') at o, takes-nobody sub at)

narrows-wider : (p : List ℕ) (r s : Search) (base : ℕ) → r.any ≡ true → ((x : ℕ) → x < 256 → has r.set x ≡ (has (drop base p) x || has s.set x)) → Narrows r s (has (drop base p))
unfolding Narrows
narrows-wider p r s base e w sub at bytes o =
    ⊎_elim (λ n. let z : ◌≡◌ {A = ℕ} 0 1 = cc in absurd (omega arith)) (λ n. let y = takes-both sub at (has (drop base p)) (has s.set) (has r.set) bytes w n in (inr y.1, y.0)) o

-- A turn --------------------------------------------------------------------------------------

-- All that a turn does: the topmost node gives way to those that it leads to, its steps are counted, and its bytes begin.
told-on : (p : List ℕ) (entry : ℕ) (s r : Search) (pc : ℕ) (rest : List ℕ) (f : ℕ → Bool) (nexts : List ℕ) (c : ℕ) → waiting s ≡ pc ∷ rest → Reduces p pc f nexts c → waiting r ≡ nexts ++ rest → r.cost ≡ s.cost + c → length r.pending ≡ 16 → r.height ≤ 16 → Narrows r s f
    → Told p entry s → Told p entry r
unfolding Narrows
told-on p entry s r pc rest f nexts c top red now cost held low narrow t = record {
  held = held;
  low = low;
  tells = λ sub at n bytes l o h.
      let x = all_split p sub at nexts rest n (rw now at h) in
      let y = narrow sub at bytes o in
      let z : s.cost + (c + x.0 + x.1) ≡ r.cost + n = omega (arith, x.2) in
      rw z at (t.tells sub at (c + x.0 + x.1) bytes l y.0 (rw top (c + x.0, x.1, refl, red.fails sub at x.0 l y.1 x.3, x.4)));
}

-- One law for each thing that may be seen of the topmost node.
module _ (p : List ℕ) (s : Search) (h : 1 ≤ s.height) (room : s.height + 1 ≤ 16) where
  abbrev top : ℕ
  top = get_or s.pending (s.height - 1) 0

  -- the topmost node gives way to no node, and to its bytes
  done : (r : Search) (f : ℕ → Bool) (c : ℕ) → r.pending ≡ s.pending → r.height ≡ s.height - 1 → r.cost ≡ s.cost + c → Narrows r s f → Reduces p top f [] c → Follows p s r
  done r f c e₀ e₁ e₂ narrow red = record {
    few = omega (arith, red.few);
    follows = λ entry t. told-on p entry s r top (pending_of s.pending (s.height - 1)) f [] c (pending-popped s.pending s.height h) red (rw (e₀, e₁)) e₂ (rw e₀ t.held) (omega arith) narrow t;
  }

  -- and to one node
  gone-on : (r : Search) (f : ℕ → Bool) (c next : ℕ) → r.pending ≡ set s.pending (s.height - 1) next → r.height ≡ s.height - 1 + 1 → r.cost ≡ s.cost + c → Narrows r s f → Reduces p top f (next ∷ []) c → Follows p s r
  gone-on r f c next e₀ e₁ e₂ narrow red = record {
    few = omega (arith, red.few);
    follows = λ entry t.
        let l : s.height - 1 < length s.pending = omega (arith, t.held) in
        told-on p entry s r top (pending_of s.pending (s.height - 1)) f (next ∷ []) c (pending-popped s.pending s.height h) red (rw (e₀, e₁) (pending-pushed s.pending (s.height - 1) next l)) e₂ (rw e₀ (rw length-set t.held)) (omega arith) narrow t;
  }

  pub turned-leaf : (c : ℕ) → Reduces p top nobody [] c → Follows p s (counted s c)
  turned-leaf c red = done (counted s c) nobody c refl refl refl (narrows_same (counted s c) s refl refl) red

  pub turned-byte : (base c : ℕ) (r : Search) → Widened p (counted s c) base r → Reduces p top (has (drop base p)) [] c → Follows p s r
  turned-byte base c r w red = done r (has (drop base p)) c w.pending w.height w.cost (narrows-wider p r s base w.any w.both) red

  pub turned_on : (c next : ℕ) → Reduces p top nobody (next ∷ []) c → Follows p s (pushed (counted s c) next)
  turned_on c next red = gone-on (pushed (counted s c) next) nobody c next refl refl refl (narrows_same (pushed (counted s c) next) s refl refl) red

  pub turned-byte-on : (base c next : ℕ) (u : Search) → Widened p (counted s c) base u → Reduces p top (has (drop base p)) (next ∷ []) c → Follows p s (pushed u next)
  turned-byte-on base c next u w red = gone-on (pushed u next) (has (drop base p)) c next (rw (w.pending, w.height)) (rw w.height) w.cost (narrows-wider p (pushed u next) s base w.any w.both) red

  pub turned-both : (c first second : ℕ) → Reduces p top nobody (first ∷ second ∷ []) c → Follows p s (pushed (pushed (counted s c) second) first)
  turned-both c first second red =
      let r = pushed (pushed (counted s c) second) first in
      record {
        few = omega (arith, red.few);
        follows = λ entry t.
            let l : s.height - 1 < length s.pending = omega (arith, t.held) in
            let l' : s.height - 1 + 1 < length (set s.pending (s.height - 1) second) = rw length-set (omega (arith, t.held)) in
            told-on p entry s r top (pending_of s.pending (s.height - 1)) nobody (first ∷ second ∷ []) c (pending-popped s.pending s.height h) red
            (rw (pending-pushed (set s.pending (s.height - 1) second) (s.height - 1 + 1) first l', pending-pushed s.pending (s.height - 1) second l)) refl (simp length-set t.held) (omega arith) (narrows_same r s refl refl) t;
      }

-- Begin and end ----------------------------------------------------------------------------------

-- with the first node alone, nothing is counted
pub told-first : (p : List ℕ) (entry : ℕ) (s : Search) → length s.pending ≡ 16 → get_or s.pending 0 0 ≡ entry → s.height ≡ 1 → s.cost ≡ 0 → Told p entry s
unfolding pending_of
told-first p entry s held is one none = record {
  held = held;
  low = omega arith;
  tells = λ sub at n bytes l o h.
      let x : AllFail p sub at (entry ∷ []) n = rw (one, is) at h in
      let z : x.0 ≡ s.cost + n = omega (arith, x.2, x.4) in
      rw z at x.3;
}

module _ (p : List ℕ) (entry : ℕ) (s : Search) (t : Told p entry s) where
  -- with nothing left, the rule fails
  pub told-all : (budget : ℕ) → s.height ≡ 0 → s.cost ≤ budget → Skips p entry budget s.set s.any s.cost
  unfolding pending_of
  told-all budget none few = record {
    few = few;
    tells = λ sub regs room first tr begin bytes x l o.
        let z : s.cost + 0 ≡ s.cost = omega arith in
        fails-until p sub entry begin s.cost room budget first regs tr (rw z at (t.tells sub begin 0 bytes l o (rw none refl))) few x;
  }
