-- A sequence's loop: at every turn some parts are left, which stand no deeper, and what was found so far is found of the parts behind them.
use mathlib.Core.Path.{◌≡◌, sym, ap, ◌∙◌}
use mathlib.Core.List.{List}
use Rattle.std.specs.Prelude.{None}
use Prim.Native.Nat.{ℕ, ◌+◌, ◌-◌, ◌≤◌, ◌<◌}
use native.Mathlib.Omega.{arith}
use Rattle.syntax.specs.Limits.{length_limit}
use Rattle.syntax.specs.Names.{Names}
use Rattle.syntax.specs.Tree.{Rule, seq}
use Rattle.syntax.specs.Lengths.{capped, least_length}
use Rattle.syntax.specs.Reading.{unresolved, idle}
use Rattle.syntax.specs.Checkable.{unfollowed, crowded}
use Rattle.syntax.specs.WellFormed.{Proper, levels}
use Rattle.linker.specs.Nodes.{before_of, Sequence, Part, Chain}
use Rattle.linker.proofs.Regions.{part-here, chain-below}
use Rattle.linker.proofs.Chains.{for_some, for-none}
use Rattle.linker.specs.Linking.{noted}
use Rattle.lengths.specs.declared.Measured.{Measured}
use Rattle.lengths.specs.Measures.{Standing, IsNothing, Joined, Deep, Of, Finds}
use Rattle.lengths.proofs.Numbers.{capped-within, capped-both, capped-bounded, least-bounded, noted-joined}

-- what is found is capped
pub found-bounded : (Stands : Standing) (a : List ℕ) (p depth : ℕ) (m : Measured) → Deep Stands a p depth → Finds Stands a p m → m.least ≤ length_limit
unfolding Finds
found-bounded Stands a p depth m d f = omega (arith, (f d.rule d.known d.groups d.tree d.lo d.top d.proper d.holds).least, least-bounded d.tree)

pub joined-bounded : (x y m : Measured) → Joined x y m → m.least ≤ length_limit
joined-bounded x y m w = omega (arith, w.least, capped-bounded (x.least + y.least))

add_none : (x : ℕ) → x + 0 ≡ x
add_none x = omega arith

none-add : (x : ℕ) → 0 + x ≡ x
none-add x = omega arith

module _ (a : List ℕ) where
  -- What stands ---------------------------------------------------------------------------

  -- the part at p, and those before it
  pub record Turn (p depth : ℕ) : Type 0 where
    pub some : 1 ≤ depth
    pub part : Deep Part a p (depth - 1)
    pub rest : Deep Chain a (before_of a p) depth
    pub lower : before_of a p < p

  pub turn_at : (p depth : ℕ) → 1 ≤ p → Deep Chain a p depth → Turn p depth
  turn_at p depth l d = for_some d.rule d.known a d.lo d.top p (λ t. Proper d.groups t → levels t ≤ depth → Turn p depth) go l d.tree d.holds d.proper d.deep
    where
      go : (x y : Rule) → Sequence a (Chain d.rule d.known a x) (Part d.rule d.known a y) d.lo d.top p → Proper d.groups (seq x y) → levels (seq x y) ≤ depth → Turn p depth
      go x y h q u =
          let k = part-here d.rule d.known a y h.mid d.top p h.right in
          record {
            some = omega (arith, u);
            part = record { rule = d.rule; known = d.known; tree = y; lo = h.mid; top = d.top; holds = h.right; within = d.within; groups = d.groups; proper = q.1; deep = omega (arith, u) };
            rest = rw h.link (record { rule = d.rule; known = d.known; tree = x; lo = d.lo; top = h.mid; holds = h.left; within = omega (arith, k.low, k.high, d.within); groups = d.groups; proper = q.0; deep = omega (arith, u) });
            lower = rw h.link (chain-below d.rule d.known a x d.lo h.mid h.before p k.low k.some h.left);
          }

  -- What is found ---------------------------------------------------------------------------

  -- the parts that are left of the tree t, from p on
  record Left (rule : List ℕ) (known : Names) (groups : ℕ) (t : Rule) (lo p : ℕ) (m : Measured) : Type 0 where
    rest : Rule
    mid : ℕ
    stands : Chain rule known a rest lo mid p
    proper : Proper groups rest
    least : least_length t ≡ capped (least_length rest + m.least)
    first : noted (unresolved 0 t) None ≡ noted (unresolved 0 rest) m.reference
    second : noted (idle t) None ≡ noted (idle rest) m.idle
    third : noted (unfollowed t) None ≡ noted (unfollowed rest) m.form
    fourth : noted (crowded t) None ≡ noted (crowded rest) m.crowd

  -- of whatever tree the loop began with
  pub Going : (last p : ℕ) (m : Measured) → Type 0
  Going last p m = (rule : List ℕ) (known : Names) (groups : ℕ) (t : Rule) (lo top : ℕ) → Proper groups t → Chain rule known a t lo top last → Left rule known groups t lo p m

  pub going_start : (last : ℕ) (m : Measured) → IsNothing m → Going last last m
  unfolding Going
  going_start last m n rule known groups t lo top q h =
      record {
        rest = t;
        mid = top;
        stands = h;
        proper = q;
        least = rw n.least (sym (ap capped (add_none (least_length t)) ∙ capped-within (least_length t) (least-bounded t)));
        first = ap (noted (unresolved 0 t)) (sym n.reference);
        second = ap (noted (idle t)) (sym n.idle);
        third = ap (noted (unfollowed t)) (sym n.form);
        fourth = ap (noted (crowded t)) (sym n.crowd);
      }

  pub going_step : (last p before : ℕ) (m found more : Measured) → 1 ≤ p → before ≡ before_of a p → Finds Part a p found → Joined found m more → Going last p m → Going last before more
  unfolding Going Finds
  going_step last p before m found more l is f w g rule known groups t lo top q h =
      let k = g rule known groups t lo top q h in
      for_some rule known a lo k.mid p (λ x. Proper groups x → least_length t ≡ capped (least_length x + m.least) → noted (unresolved 0 t) None ≡ noted (unresolved 0 x) m.reference → noted (idle t) None ≡ noted (idle x) m.idle → noted (unfollowed t) None ≡ noted (unfollowed x) m.form → noted (crowded t) None ≡ noted (crowded x) m.crowd → Left rule known groups t lo before more)
      (λ x y h q c₁ c₂ c₃ c₄ c₅. let o = f rule known groups y h.mid k.mid q.1 h.right in
      record {
        rest = x;
        mid = h.mid;
        stands = rw (is ∙ h.link) h.left;
        proper = q.0;
        least = c₁ ∙ unfold least_length in capped-both (least_length x) (least_length y) m.least ∙ rw (w.least, o.least);
        first = c₂ ∙ unfold unresolved in noted-joined (unresolved 0 x) (unresolved 0 y) m.reference ∙ rw (w.reference, o.reference);
        second = c₃ ∙ unfold idle in noted-joined (idle x) (idle y) m.idle ∙ rw (w.idle, o.idle);
        third = c₄ ∙ unfold unfollowed in noted-joined (unfollowed x) (unfollowed y) m.form ∙ rw (w.form, o.form);
        fourth = c₅ ∙ unfold crowded in noted-joined (crowded x) (crowded y) m.crowd ∙ rw (w.crowd, o.crowd);
      }) l k.rest k.stands k.proper k.least k.first k.second k.third k.fourth

  pub going_end : (last p : ℕ) (m : Measured) → p ≡ 0 → m.least ≤ length_limit → Going last p m → Finds Chain a last m
  unfolding Going Finds
  going_end last p m e l g rule known groups t lo top q h =
      let k = g rule known groups t lo top q h in
      for-none rule known a lo k.mid p (λ x. least_length t ≡ capped (least_length x + m.least) → noted (unresolved 0 t) None ≡ noted (unresolved 0 x) m.reference → noted (idle t) None ≡ noted (idle x) m.idle → noted (unfollowed t) None ≡ noted (unfollowed x) m.form → noted (crowded t) None ≡ noted (crowded x) m.crowd → Of t m)
      (λ c₁ c₂ c₃ c₄ c₅. unfold least_length unresolved idle unfollowed crowded noted in record { least = sym (c₁ ∙ ap capped (none-add m.least) ∙ capped-within m.least l); reference = sym c₂; idle = sym c₃; form = sym c₄; crowd = sym c₅ }) e k.rest k.stands k.least k.first k.second k.third k.fourth
