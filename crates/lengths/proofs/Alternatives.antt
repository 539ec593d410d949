-- The loop over branches: at every turn some branches are left, or none, and what was found so far is found of the branches behind them.
use mathlib.Core.Path.{◌≡◌, refl, sym, ap, ◌∙◌}
use mathlib.Core.List.{List}
use mathlib.Core.Option as maybe
use mathlib.Core.Option.{none, some}
use Rattle.std.specs.Prelude.{Option, None, SomeIff}
use Rattle.std.specs.Option.{option_or}
use Prim.Native.Nat.{ℕ, min, ◌+◌, ◌-◌, ◌≤◌, ◌<◌}
use native.Mathlib.Omega.{arith}
use lib.ListN.{get_or, length}
use Rattle.syntax.specs.Names.{Names}
use Rattle.syntax.specs.Tree.{Rule, Branches, one, also, branch_count}
use Rattle.syntax.specs.Lengths.{least_length, shortest}
use Rattle.syntax.specs.Reading.{unresolved, unresolved_in, idle, idle_in}
use Rattle.syntax.specs.Checkable.{unfollowed, unfollowed_in, crowded_at, crowded, crowded_in}
use Rattle.syntax.specs.WellFormed.{Proper, Propers, levels, levels_in}
use Rattle.linker.specs.Nodes.{Region, bar_word, Nothing, Branch, Chain, Several, Preceding}
use Rattle.linker.proofs.Regions.{chain-order, several-node}
use Rattle.linker.specs.Linking.{noted}
use Rattle.lengths.specs.declared.Measured.{Measured}
use Rattle.lengths.specs.Measures.{Shorter, Deep, DeepBranches, OfBranches, Finds, FindsBranches}
use Rattle.lengths.proofs.Numbers.{noted-three, noted-alone, noted-joined, bar-noted}

-- Branches that are left, or none ----------------------------------------------------------

-- one branch behind those
abbrev with : maybe.Option Branches → ℕ → Rule → Branches
with none bar t = one t
with (some bs) bar t = also bs bar t

-- behind them stands a bar
abbrev LeftStand : List ℕ → Names → List ℕ → maybe.Option Branches → ℕ → Region
LeftStand rule known a none bar lo top p = Nothing lo top p
LeftStand rule known a (some bs) bar lo top p = Preceding rule known a bs bar lo top p

abbrev LeftProper : ℕ → maybe.Option Branches → Type 0
LeftProper groups none = Unit {0}
LeftProper groups (some bs) = Propers groups bs

abbrev LeftDeep : ℕ → maybe.Option Branches → Type 0
LeftDeep depth none = Unit {0}
LeftDeep depth (some bs) = levels_in bs ≤ depth

-- every branch with what stands before it
for-branch : (rule : List ℕ) (known : Names) (a : List ℕ) (lo top p : ℕ) (Q : Branches → Type 0)
    → ((left : maybe.Option Branches) (bar : ℕ) (t : Rule) → Branch a 5 (LeftStand rule known a left bar) (Chain rule known a t) lo top p → Q (with left bar t)) → (bs : Branches) → Several rule known a bs lo top p → Q bs
unfolding Several
for-branch rule known a lo top p Q f (one t) h = f none 0 t h
for-branch rule known a lo top p Q f (also bs bar t) h = f (some bs) bar t h

proper-with : (groups : ℕ) (left : maybe.Option Branches) (bar : ℕ) (t : Rule) → Propers groups (with left bar t) → LeftProper groups left × Proper groups t
proper-with groups none bar t h = (tt, h)
proper-with groups (some bs) bar t h = (h.0, h.1)

deep-with : (depth : ℕ) (left : maybe.Option Branches) (bar : ℕ) (t : Rule) → levels_in (with left bar t) ≤ depth → LeftDeep depth left × (levels t ≤ depth)
deep-with depth none bar t h = (tt, h)
deep-with depth (some bs) bar t h = (omega arith, omega arith)

-- What is found of branches, behind which something was found -------------------------------

abbrev least_in : maybe.Option Branches → ℕ → ℕ
least_in none n = n
least_in (some bs) n = min (shortest bs) n

abbrev reference_in : maybe.Option Branches → Option ℕ → Option ℕ
reference_in none n = n
reference_in (some bs) n = noted (unresolved_in 0 bs) n

abbrev idle_from : maybe.Option Branches → Option ℕ → Option ℕ
idle_from none n = n
idle_from (some bs) n = noted (idle_in bs) n

abbrev form_from : maybe.Option Branches → Option ℕ → Option ℕ
form_from none n = n
form_from (some bs) n = noted (unfollowed_in bs) n

abbrev crowd_from : maybe.Option Branches → (bar : ℕ) → Option ℕ → Option ℕ
crowd_from none bar n = n
crowd_from (some bs) bar n = noted (crowded_in bs) (noted (crowded_at (branch_count bs) bar) n)

least-with : (left : maybe.Option Branches) (bar : ℕ) (t : Rule) (n : ℕ) → least_in (some (with left bar t)) n ≡ least_in left (min (least_length t) n)
unfolding shortest
least-with none bar t n = refl
least-with (some bs) bar t n = omega arith

reference-with : (left : maybe.Option Branches) (bar : ℕ) (t : Rule) (n : Option ℕ) → reference_in (some (with left bar t)) n ≡ reference_in left (option_or (noted (unresolved 0 t) None) n)
unfolding unresolved_in
reference-with none bar t n = noted-alone (unresolved 0 t) n
reference-with (some bs) bar t n = noted-joined (unresolved_in 0 bs) (unresolved 0 t) n

idle-with : (left : maybe.Option Branches) (bar : ℕ) (t : Rule) (n : Option ℕ) → idle_from (some (with left bar t)) n ≡ idle_from left (option_or (noted (idle t) None) n)
unfolding idle_in
idle-with none bar t n = noted-alone (idle t) n
idle-with (some bs) bar t n = noted-joined (idle_in bs) (idle t) n

form-with : (left : maybe.Option Branches) (bar : ℕ) (t : Rule) (n : Option ℕ) → form_from (some (with left bar t)) n ≡ form_from left (option_or (noted (unfollowed t) None) n)
unfolding unfollowed_in
form-with none bar t n = noted-alone (unfollowed t) n
form-with (some bs) bar t n = noted-joined (unfollowed_in bs) (unfollowed t) n

-- the bar behind them comes behind what is found in them
crowd-with : (left : maybe.Option Branches) (bar : ℕ) (t : Rule) (next : ℕ) (n : Option ℕ) → crowd_from (some (with left bar t)) next n ≡ crowd_from left bar (option_or (noted (crowded t) None) (option_or (noted (crowded_at (branch_count (with left bar t)) next) None) n))
unfolding crowded_in
crowd-with none bar t next n = let last = crowded_at (branch_count (one t)) next in ap (noted (crowded t)) (noted-alone last n) ∙ noted-alone (crowded t) (option_or (noted last None) n)
crowd-with (some bs) bar t next n =
    let last = crowded_at (branch_count (also bs bar t)) next in
    let before = crowded_at (branch_count bs) bar in
    noted-three (crowded_in bs) before (crowded t) (noted last n)
    ∙ ap (λ (m : Option ℕ). noted (crowded_in bs) (noted before m)) (ap (noted (crowded t)) (noted-alone last n) ∙ noted-alone (crowded t) (option_or (noted last None) n))

module _ (a : List ℕ) where
  -- What stands -----------------------------------------------------------------------------

  -- branches stand at p, or none and p is 0
  abbrev pub Rest : (p depth : ℕ) → Type 0
  Rest p depth = 1 ≤ p → DeepBranches a p depth

  left-rest : (rule : List ℕ) (known : Names) (left : maybe.Option Branches) (bar lo top p groups depth : ℕ) → LeftStand rule known a left bar lo top p → top ≤ length a → LeftProper groups left → LeftDeep depth left → Rest p depth
  left-rest rule known none bar lo top p groups depth h w q u l = absurd (omega (arith, h.0))
  left-rest rule known (some bs) bar lo top p groups depth h w q u l = record { rule = rule; known = known; branches = bs; bar = bar; lo = lo; top = top; holds = h; within = w; groups = groups; proper = q; deep = u }

  left_below : (rule : List ℕ) (known : Names) (left : maybe.Option Branches) (bar lo top p n : ℕ) → LeftStand rule known a left bar lo top p → top ≤ n → 1 ≤ n → p < n
  left_below rule known none bar lo top p n h l u = omega (arith, h.0)
  left_below rule known (some bs) bar lo top p n h l u = omega (arith, (several-node rule known a bs lo top p h.earlier).high)

  pub record BranchAt (p depth : ℕ) : Type 0 where
    pub fits : p + 4 ≤ length a
    pub inner : Deep Chain a (get_or a (p + 1) 0) depth
    pub rest : Rest (get_or a (p + 2) 0) depth
    pub lower : get_or a (p + 2) 0 < p

  pub branch-at : (p depth : ℕ) → DeepBranches a p depth → BranchAt p depth
  branch-at p depth d = for-branch d.rule d.known a d.lo d.top p (λ bs. Propers d.groups bs → levels_in bs ≤ depth → BranchAt p depth) go d.branches d.holds.earlier d.proper d.deep
    where
      go : (left : maybe.Option Branches) (bar : ℕ) (t : Rule) → Branch a 5 (LeftStand d.rule d.known a left bar) (Chain d.rule d.known a t) d.lo d.top p → Propers d.groups (with left bar t) → levels_in (with left bar t) ≤ depth → BranchAt p depth
      go left bar t h q u =
          let x = proper-with d.groups left bar t q in
          let y = deep-with depth left bar t u in
          let o = chain-order d.rule d.known a t h.mid p h.inside h.right in
          let w = d.within in
          let n = h.node in
          let high : p + 4 ≤ d.top = d.holds.fits in
          record {
            fits = omega arith;
            inner = rw h.of (record { rule = d.rule; known = d.known; tree = t; lo = h.mid; top = p; holds = h.right; within = omega arith; groups = d.groups; proper = x.1; deep = y.1 });
            rest = rw h.link (left-rest d.rule d.known left bar d.lo h.mid h.before d.groups depth h.left (omega arith) x.0 y.0);
            lower = rw h.link (left_below d.rule d.known left bar d.lo h.mid h.before p h.left o n.some);
          }

  -- What is found -----------------------------------------------------------------------------

  record AllLeft (rule : List ℕ) (known : Names) (groups : ℕ) (bs : Branches) (next lo p : ℕ) (behind m : Measured) : Type 0 where
    left : maybe.Option Branches
    bar : ℕ
    mid : ℕ
    stands : LeftStand rule known a left bar lo mid p
    proper : LeftProper groups left
    least : min (shortest bs) behind.least ≡ least_in left m.least
    first : noted (unresolved_in 0 bs) behind.reference ≡ reference_in left m.reference
    second : noted (idle_in bs) behind.idle ≡ idle_from left m.idle
    third : noted (unfollowed_in bs) behind.form ≡ form_from left m.form
    fourth : noted (crowded_in bs) (noted (crowded_at (branch_count bs) next) behind.crowd) ≡ crowd_from left bar m.crowd

  pub AllGoing : (last p : ℕ) (behind m : Measured) → Type 0
  AllGoing last p behind m = (rule : List ℕ) (known : Names) (groups : ℕ) (bs : Branches) (next lo top : ℕ) → Propers groups bs → Preceding rule known a bs next lo top last → AllLeft rule known groups bs next lo p behind m

  pub all_start : (last : ℕ) (behind : Measured) → AllGoing last last behind behind
  unfolding AllGoing
  all_start last behind rule known groups bs next lo top q h = record { left = some bs; bar = next; mid = top; stands = h; proper = q; least = refl; first = refl; second = refl; third = refl; fourth = refl }

  pub all-step : (last p before word : ℕ) (bar : Option ℕ) (behind m found more : Measured) → 1 ≤ p → before ≡ get_or a (p + 2) 0 → word ≡ get_or a (p + 3) 0 → SomeIff bar (1 ≤ word) (word - 1) → Finds Chain a (get_or a (p + 1) 0) found → Shorter found bar m more → AllGoing last p behind m → AllGoing last before behind more
  unfolding AllGoing Finds
  all-step last p before word bar behind m found more l is tells was f w g rule known groups bs next lo top q h = go k.left k.stands k.proper k.least k.first k.second k.third k.fourth
    where
      k : AllLeft rule known groups bs next lo p behind m
      k = g rule known groups bs next lo top q h

      Claim : maybe.Option Branches → Type 0
      Claim left = min (shortest bs) behind.least ≡ least_in left m.least → noted (unresolved_in 0 bs) behind.reference ≡ reference_in left m.reference → noted (idle_in bs) behind.idle ≡ idle_from left m.idle
          → noted (unfollowed_in bs) behind.form ≡ form_from left m.form → noted (crowded_in bs) (noted (crowded_at (branch_count bs) next) behind.crowd) ≡ crowd_from left k.bar m.crowd → AllLeft rule known groups bs next lo before behind more

      told : (bs : Branches) → get_or a (p + 3) 0 ≡ bar_word bs k.bar → bar ≡ noted (crowded_at (branch_count bs) k.bar) None
      told bs b = bar-noted (crowded_at (branch_count bs) k.bar) bar (rw (tells ∙ b) at was)

      step : (left : maybe.Option Branches) (inner : ℕ) (t : Rule) → Branch a 5 (LeftStand rule known a left inner) (Chain rule known a t) lo k.mid p → Propers groups (with left inner t) → get_or a (p + 3) 0 ≡ bar_word (with left inner t) k.bar → Claim (some (with left inner t))
      step left inner t h q b c₁ c₂ c₃ c₄ c₅ =
          let x = proper-with groups left inner t q in
          let o = f rule known groups t h.mid p x.1 (rw h.of h.right) in
          record {
            left = left;
            bar = inner;
            mid = h.mid;
            stands = rw (is ∙ h.link) h.left;
            proper = x.0;
            least = c₁ ∙ least-with left inner t m.least ∙ rw (w.least, o.least);
            first = c₂ ∙ reference-with left inner t m.reference ∙ rw (w.reference, o.reference);
            second = c₃ ∙ idle-with left inner t m.idle ∙ rw (w.idle, o.idle);
            third = c₄ ∙ form-with left inner t m.form ∙ rw (w.form, o.form);
            fourth = c₅ ∙ crowd-with left inner t k.bar m.crowd ∙ rw (w.crowd, o.crowd, told (with left inner t) b);
          }

      go : (left : maybe.Option Branches) → LeftStand rule known a left k.bar lo k.mid p → LeftProper groups left → Claim left
      go none h q = absurd (omega (arith, h.0))
      go (some bs) h q = for-branch rule known a lo k.mid p (λ bs. Propers groups bs → get_or a (p + 3) 0 ≡ bar_word bs k.bar → Claim (some bs)) step bs h.earlier q h.bar

  pub all_end : (last p : ℕ) (behind m : Measured) → p ≡ 0 → AllGoing last p behind m → FindsBranches a last behind m
  unfolding AllGoing FindsBranches
  all_end last p behind m e g rule known groups bs next lo top q h = go k.left k.stands k.least k.first k.second k.third k.fourth
    where
      k : AllLeft rule known groups bs next lo p behind m
      k = g rule known groups bs next lo top q h

      go : (left : maybe.Option Branches) → LeftStand rule known a left k.bar lo k.mid p → min (shortest bs) behind.least ≡ least_in left m.least → noted (unresolved_in 0 bs) behind.reference ≡ reference_in left m.reference → noted (idle_in bs) behind.idle ≡ idle_from left m.idle
          → noted (unfollowed_in bs) behind.form ≡ form_from left m.form → noted (crowded_in bs) (noted (crowded_at (branch_count bs) next) behind.crowd) ≡ crowd_from left k.bar m.crowd → OfBranches bs next behind m
      go none h c₁ c₂ c₃ c₄ c₅ = record { least = sym c₁; reference = sym c₂; idle = sym c₃; form = sym c₄; crowd = sym c₅ }
      go (some bs) h c₁ c₂ c₃ c₄ c₅ = absurd (omega (arith, (several-node rule known a bs lo k.mid p h.earlier).some))
