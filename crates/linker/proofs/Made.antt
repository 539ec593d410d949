-- How what was made of neighbouring regions goes together: nothing outside both changed, and the further left reference is noted.
use mathlib.Core.Path.{◌≡◌, refl, ap, ◌∙◌}
use mathlib.Core.List.{List}
use mathlib.Core.Option as maybe
use mathlib.Core.Option.{none, some}
use Rattle.std.specs.Prelude.{Option}
use Prim.Native.Nat.{ℕ, ◌≤◌}
use native.Mathlib.Omega.{arith}
use Rattle.syntax.specs.Tree.{Rule, empty, seq}
use Rattle.syntax.specs.Reading.{first_some, unresolved}
use Rattle.syntax.specs.Compiled.{Compiled}
use Rattle.syntax.specs.Limits.{rule_area_need}
use Rattle.linker.specs.Nodes.{Region}
use Rattle.linker.specs.Linking.{Outside, Stands, noted, Made, Links}
use Rattle.linker.proofs.Compiled.{keep}

-- Regions in which something changed ---------------------------------------------

pub outside-none : (lo top : ℕ) (a : List ℕ) → Outside lo top a a
outside-none lo top a = record { below = λ i l. refl; above = λ i l. refl; long = refl }

-- one change after another
pub outside-then : (lo₁ top₁ lo₂ top₂ lo top : ℕ) (a b c : List ℕ) → lo ≤ lo₁ → top₁ ≤ top → lo ≤ lo₂ → top₂ ≤ top → Outside lo₁ top₁ a b → Outside lo₂ top₂ b c → Outside lo top a c
outside-then lo₁ top₁ lo₂ top₂ lo top a b c l₁ h₁ l₂ h₂ x y =
    record {
      below = λ i l. y.below i (omega arith) ∙ x.below i (omega arith);
      above = λ i l. y.above i (omega arith) ∙ x.above i (omega arith);
      long = y.long ∙ x.long;
    }

pub outside_wider : (lo top lo' top' : ℕ) (a b : List ℕ) → lo' ≤ lo → top ≤ top' → Outside lo top a b → Outside lo' top' a b
outside_wider lo top lo' top' a b l h x = outside-then lo' top' lo top lo' top' a a b (omega arith) (omega arith) l h (outside-none lo' top' a) x

-- References to no group -----------------------------------------------------------

pub none_left : (x y : maybe.Option ℕ) → first_some x y ≡ none → x ≡ none
unfolding first_some
none_left none y e = refl
none_left (some p) y e = e

pub none_right : (x y : maybe.Option ℕ) → first_some x y ≡ none → y ≡ none
unfolding first_some
none_right none y e = e
none_right (some p) y e = let z : ◌≡◌ {A = ℕ} 0 1 = cc in absurd (omega arith)

pub noted-first : (x y : maybe.Option ℕ) (sofar : Option ℕ) → noted x (noted y sofar) ≡ noted (first_some x y) sofar
unfolding noted first_some
noted-first none y sofar = refl
noted-first (some p) y sofar = refl

-- Trees ------------------------------------------------------------------------------

pub made-wider : (groups r : ℕ) (t : Rule) (lo top lo' top' : ℕ) (a b : List ℕ) (next : ℕ) (sofar : Option ℕ) (pc : ℕ) (found : Option ℕ) → lo' ≤ lo → top ≤ top'
    → Made groups r t lo top a b next sofar pc found → Made groups r t lo' top' a b next sofar pc found
made-wider groups r t lo top lo' top' a b next sofar pc found l h m =
    record {
      outside = outside_wider lo top lo' top' a b l h m.outside;
      near = omega (arith, m.near);
      stands = λ e. keep b b lo top lo' top' l h (λ i _ _. refl) t pc next r (m.stands e);
      first = m.first;
    }

-- nothing is made of no part
pub made-empty : (groups r lo top : ℕ) (a : List ℕ) (next : ℕ) (sofar : Option ℕ) → Made groups r empty lo top a a next sofar next sofar
unfolding unresolved Compiled noted
made-empty groups r lo top a next sofar =
    record { outside = outside-none lo top a; near = omega arith; stands = λ e. refl; first = refl }

-- the last part of a sequence, then the parts before it, which go on at the last
pub made-seq : (groups r : ℕ) (x y : Rule) (lo mid top : ℕ) (a b c : List ℕ) (next : ℕ) (sofar : Option ℕ) (q : ℕ) (noticed : Option ℕ) (pc : ℕ) (found : Option ℕ) → lo ≤ mid → mid ≤ top
    → Made groups r y mid top a b next sofar q noticed → Made groups r x lo mid b c q noticed pc found → Made groups r (seq x y) lo top a c next sofar pc found
unfolding unresolved Compiled
made-seq groups r x y lo mid top a b c next sofar q noticed pc found l h my mx =
    let ux = unresolved groups x in
    let uy = unresolved groups y in
    record {
      outside = outside-then mid top lo mid lo top a b c l (omega arith) (omega arith) h my.outside mx.outside;
      near = omega (arith, mx.near, my.near);
      stands = λ e. record {
        mid = q;
        left = keep c c lo mid lo top (omega arith) h (λ i _ _. refl) x pc q r (mx.stands (none_left ux uy e));
        right = keep b c mid top lo top l (omega arith) (λ i i1 i2. mx.outside.above i i1) y q next r (my.stands (none_right ux uy e));
      };
      first = mx.first ∙ ap (noted ux) my.first ∙ noted-first ux uy sofar;
    }

-- where a tree is entered, in the code's bounds
pub links-near : (Holds : Rule → Region) (groups r : ℕ) (a b : List ℕ) (p next : ℕ) (sofar : Option ℕ) (pc : ℕ) (found : Option ℕ) → next ≤ rule_area_need → Stands Holds groups r a p → Links Holds groups r a b p next sofar pc found → pc ≤ rule_area_need
unfolding Links
links-near Holds groups r a b p next sofar pc found n s m = omega (arith, (m s.tree s.lo s.top s.holds s.fits).near, s.small)
