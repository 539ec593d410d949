-- Where a rule stands compiled, following it treads the path that the choices tell: one induction over the rule, with a lemma for each form, as the machine's own
-- theorem goes (`machine`, Laws/Walk), but with one way on and no stack. The choices never grow, which bounds the rounds of a repeat.
use Rattle.std.specs.Prelude.{◌≡◌, Bool, true, take, drop, eqb, if◌then◌else◌}
use Rattle.std.proofs.Math.Path.{refl, ap}
use Rattle.std.proofs.Common.{sym, ◌∙◌, subst, inl, inr, eqb-true}
use mathlib.Core.List.{List, [], ◌∷◌}
use Rattle.std.proofs.Math.Option.{Option, none, some}
use Rattle.std.proofs.Math.Bool.{false}
use Prim.Native.Nat.{ℕ, zero, suc, ◌+◌, ◌-◌, ◌≤◌, ◌<◌}
use native.Mathlib.Omega.{arith}
use Rattle.std.proofs.Math.ListN.{length, get_or}
use Rattle.std.proofs.lemmas.Bool.{eqb-false}
use Rattle.charset.specs.Class.{has}
use Rattle.syntax.specs.declared.Greed.{Greed}
use Rattle.syntax.specs.declared.Greed.TheVariants.{Greedy, Lazy}
use Rattle.syntax.specs.declared.Most.{Most}
use Rattle.syntax.specs.Limits.{spans_length, slot, registers}
use Rattle.syntax.specs.Tree.{Item, byte_in, assert, reference, Rule, empty, item, seq, alt, group, repeat, held, look, Branches, one, also, branch_count}
use Rattle.syntax.specs.WellFormed.{BoundsFit}
use Rattle.syntax.specs.Compiled.{RunOf, CompiledItem, Compiled, CompiledBranches}
use Rattle.semantics.specs.States.{branch, again, go_on, State, starting, chose, closed}
use Rattle.semantics.specs.Items.{Tried, fails, goes, toll, try}
use Rattle.semantics.specs.Repeats.{Next, round, leave, either, decision}
use Rattle.semantics.specs.Derivations.{Again}
use Rattle.semantics.specs.Proposals.{Trail, step_then, arrives, strays, Follow, ◌▸◌, steps_then, behind, choosing, either_way, settling, laps, follow, follow_in, path_of}
use Rattle.semantics.proofs.Laws.Right.{try-reach}
use Rattle.semantics.proofs.Laws.Cases.{three}
use Rattle.semantics.proofs.Laws.Following.{begun, begun-fewer}
use Rattle.machine.specs.Code.{Program, Test, in_set, holding, same_as, tests, opens, closes, branches, last_branch, loops, repeat_at, decode, RepeatFits, Fits}
use Rattle.machine.specs.Moves.{Bytes, set2, state, bump, tested, price}
use Rattle.machine.specs.Laws.Code.{assertion-read, folded_read, repeat_read, decode-at, fits}
use Rattle.machine.specs.Laws.Registers.{first-set2, second-set2}
use Rattle.machine.specs.Laws.Rounds.{counted, counted_none, bump-counted, decision-counted}
use Rattle.machine.specs.Laws.Run.{emits}
use Rattle.machine.specs.Laws.Walk.{Agree, agree-byte, agree-assert, agree-reference, Mirrors, Later, at_once, later-still, mirrors-chose, later-chose, outside, mirrors-set2, closing}
use Rattle.machine.specs.Theorem.{Stands, Clear}
use Rattle.turns.specs.Turns.{onward, astray, finished, on_from, body_of, branching, choosing_branch, beginning, either_turn, settled, deciding, behind_item, turn_by, turn, Safe, Treads, moves, stops, ended}

-- Paths -----------------------------------------------------------------------

steps_on : (j : ℕ) (p : Trail) (k : Follow) → steps_then j p ▸ k ≡ steps_then j (p ▸ k)
unfolding steps_then ◌▸◌
steps_on zero p k = refl
steps_on (suc j) p k = ap step_then (steps_on j p k)

on-on : (p : Trail) (j k : Follow) → (p ▸ j) ▸ k ≡ p ▸ (λ t ds. j t ds ▸ k)
unfolding ◌▸◌
on-on (step_then p) j k = ap step_then (on-on p j k)
on-on (arrives t ds) j k = refl
on-on strays j k = refl

one-step : (p : Trail) (k : Follow) → step_then p ▸ k ≡ steps_then 1 (p ▸ k)
unfolding steps_then ◌▸◌
one-step p k = refl

lost : (k : Follow) (j : ℕ) → steps_then j strays ▸ k ≡ steps_then j strays
unfolding ◌▸◌
lost k j = steps_on j strays k

module _ (p : Program) (sub : List ℕ) where
  abbrev Mirrored : State → List ℕ → Type 0
  Mirrored s regs = Mirrors p sub (emits p sub) s regs

  abbrev Behind : ℕ → State → List ℕ → State → List ℕ → Type 0
  Behind r s regs t regs' = Later p sub (emits p sub) r s regs t regs'

  -- at the node `next` the path k is trodden, from every later state and with no more choices
  abbrev GoesOn : (next r : ℕ) → State → (regs cs : List ℕ) → Follow → Type 0
  GoesOn next r s regs cs k = (t : State) (regs' ds : List ℕ) → length ds ≤ length cs → Behind r s regs t regs' → Treads p sub next t.at regs' ds (k t ds)

  -- from pc the path m is trodden, and goes on at `next`; the registers from r on are used
  abbrev pub Carries : Follow → (pc next r : ℕ) → Type 0
  Carries m pc next r = (s : State) (regs cs : List ℕ) (k : Follow) → Mirrored s regs → GoesOn next r s regs cs k → Treads p sub pc s.at regs cs (m s cs ▸ k)

  safe : (pc kind : ℕ) (s : State) (regs : List ℕ) → get_or p pc 0 ≡ kind → (kind ≡ 10 → ⊥) → Fits p pc → Mirrored s regs → Safe p sub pc s.at regs
  safe pc kind s regs e n f g = record { fits = f; run_fits = λ x. absurd (n (sym e ∙ x)); inside = g.inside; size = g.size }

  move-on : (pc at : ℕ) (regs cs : List ℕ) (more pc' at' : ℕ) (regs' cs' : List ℕ) (rest : Trail) → Safe p sub pc at regs → turn p sub pc at regs cs ≡ onward more pc' at' regs' cs' → Treads p sub pc' at' regs' cs' rest → Treads p sub pc at regs cs (steps_then (suc more) rest)
  move-on pc at regs cs more pc' at' regs' cs' rest z e w = moves more pc' at' regs' cs' rest z e refl w

  stop-at : (pc at : ℕ) (regs cs : List ℕ) (steps : ℕ) → Safe p sub pc at regs → turn p sub pc at regs cs ≡ astray steps → Treads p sub pc at regs cs (steps_then steps strays)
  stop-at pc at regs cs steps z e = stops steps z e refl

  -- Items -------------------------------------------------------------------------

  carries-item : (place : ℕ) (i : Item) (x : Test) (pc next r : ℕ) → ((s : State) (regs : List ℕ) → Mirrored s regs → Safe p sub pc s.at regs) → decode p pc ≡ tests x place next
      → ((s : State) (regs : List ℕ) → s.spans ≡ take spans_length regs → (toll sub i s ≡ price sub x (state s.at regs)) × Agree s (try sub i s) (tested sub x (state s.at regs))) → Carries (follow sub (item place i)) pc next r
  unfolding follow behind turn_by behind_item ◌▸◌
  carries-item place i x pc next r f d same s regs cs k g h =
      let c = same s regs g.spans in
      rw (steps_on (suc (toll sub i s)) (behind (try sub i s) cs) k, c.0) (by (try sub i s) (tested sub x (state s.at regs)) refl refl c.1)
    where
      by : (y z : Tried) → try sub i s ≡ y → tested sub x (state s.at regs) ≡ z → Agree s y z → Treads p sub pc s.at regs cs (steps_then (suc (price sub x (state s.at regs))) (behind (try sub i s) cs ▸ k))
      by fails fails e e' a = rw e (stop-at pc s.at regs cs (suc (price sub x (state s.at regs))) (f s regs g) (rw (d, e')))
      by fails (goes u) e e' a = absurd a
      by (goes t) fails e e' a = absurd a
      by (goes t) (goes u) e e' a =
          let y = try-reach sub i s t g.inside e in
          rw e (move-on pc s.at regs cs (price sub x (state s.at regs)) next u.at regs cs (k t cs) (f s regs g) (rw (d, e'))
          (subst (λ (z : ℕ). Treads p sub next z regs cs (k t cs)) a.0 (h t regs cs (omega arith) (record { on = y.up; mirrors = record { inside = y.inside; size = g.size; spans = a.1 ∙ g.spans }; kept = λ i _ _. refl }))))

  carries-seq : (a b : Rule) (pc next r mid : ℕ) → Carries (follow sub a) pc mid r → Carries (follow sub b) mid next r → Carries (follow sub (seq a b)) pc next r
  unfolding follow
  carries-seq a b pc next r mid v w s regs cs k g h =
      rw (on-on (follow sub a s cs) (λ t ds. follow sub b t ds) k)
      (v s regs cs (λ t ds. follow sub b t ds ▸ k) g (λ t regs' ds l n. w t regs' ds k n.mirrors (λ u regs'' es l' n'. h u regs'' es (omega arith) (later-still p sub (emits p sub) n n'))))

  -- Groups ------------------------------------------------------------------------

  group-path : (n : ℕ) (a : Rule) (s : State) (cs : List ℕ) (k : Follow) → follow sub (group n a) s cs ▸ k ≡ steps_then 1 (follow sub a s cs ▸ (λ t ds. steps_then 1 (k (closed n s.at t) ds)))
  unfolding follow ◌▸◌ steps_then
  group-path n a s cs k = ap step_then (on-on (follow sub a s cs) (λ t ds. step_then (arrives (closed n s.at t) ds)) k)

  carries-group : (n : ℕ) (a : Rule) (pc next r body close : ℕ) → ((s : State) (regs : List ℕ) → Mirrored s regs → Safe p sub pc s.at regs) → ((s : State) (regs : List ℕ) → Mirrored s regs → Safe p sub close s.at regs)
      → decode p pc ≡ opens r body → decode p close ≡ closes r (slot n) next → slot n + 2 ≤ spans_length → spans_length ≤ r → r + 2 ≤ registers → Carries (follow sub a) body close (r + 2) → Carries (follow sub (group n a)) pc next r
  unfolding turn_by
  carries-group n a pc next r body close f f' d d' fit l room v s regs cs k g h =
      rw (group-path n a s cs k)
      (move-on pc s.at regs cs 0 body s.at (set2 regs r s.at 0) cs _ (f s regs g) (rw d) (v s (set2 regs r s.at 0) cs (λ t ds. steps_then 1 (k (closed n s.at t) ds)) (mirrors-set2 p sub (emits p sub) r s.at 0 l g)
      (λ t regs' ds l' w. move-on close t.at regs' ds 0 next t.at (set2 regs' (slot n) (get_or regs' r 0) t.at) ds _ (f' t regs' w.mirrors) (rw d') (unfold closed in h (closed n s.at t) (set2 regs' (slot n) (get_or regs' r 0) t.at) ds l' (closing p sub (emits p sub) n r s t regs regs' fit l room g w)))))

  -- Repeats -------------------------------------------------------------------------

  module _ (least : ℕ) (most : Most) (g : Greed) (a : Rule) (next r body loop q : ℕ) (fit : BoundsFit least most) (given : repeat_at p q ≡ record { least = least; most = most; greed = g; register = r; body = body; next = next }) (room : r + 2 ≤ registers)
      (safe-loop : (s : State) (regs : List ℕ) → Mirrored s regs → Safe p sub loop s.at regs) (dl : decode p loop ≡ loops q) (l : spans_length ≤ r) (v : Carries (follow sub a) body loop (r + 2)) (k : Follow) where
    -- a round that is owed leaves fewer
    owed : (n : ℕ) (still : Bool) (s : State) → decision least most g n still ≡ round → least - suc n < least - n
    owed n still s e =
        let x = begun-fewer least most g n still s s (subst (λ (d : Next). Again d s s) (sym e) refl) in
        let y : least - suc n < (least - n) + length (begun round) = rw e at x in
        omega arith

    less : (n : ℕ) → least - suc n ≤ least - n
    less n = omega arith

    -- a decision after n rounds
    decided : (n : ℕ) (still : Bool) (d : Next) (at : ℕ) (regs cs : List ℕ) → decision least most g n still ≡ d → deciding p q (counted n) still at regs cs ≡ settled p d (repeat_at p q) (counted n) at regs cs
    unfolding deciding
    decided n still d at regs cs e = rw (given, decision-counted least most g n still fit, e)

    begins : (n at : ℕ) (regs cs : List ℕ) → beginning p (repeat_at p q) (counted n) at regs cs ≡ onward 0 body at (set2 regs r (bump (counted n)) at) cs
    begins n at regs cs = rw given

    leaves : (at : ℕ) (regs cs : List ℕ) → onward 0 (repeat_at p q).next at regs cs ≡ onward 0 next at regs cs
    leaves at regs cs = rw given

    -- where a round ends, its registers have the count and where it began
    again-here : (n : ℕ) (s t : State) (regs regs' ds : List ℕ) → Mirrored s regs → Behind (r + 2) s (set2 regs r (bump (counted n)) s.at) t regs' → turn p sub loop t.at regs' ds ≡ deciding p q (counted (suc n)) (eqb s.at t.at) t.at regs' ds
    unfolding turn_by
    again-here n s t regs regs' ds m w =
        let e₀ : get_or regs' r 0 ≡ bump (counted n) = w.kept r l (omega arith) ∙ first-set2 regs r (bump (counted n)) s.at (omega (arith, m.size)) in
        let e₁ : get_or regs' (r + 1) 0 ≡ s.at = w.kept (r + 1) (omega arith) (omega arith) ∙ second-set2 regs r (bump (counted n)) s.at (omega (arith, m.size)) in
        rw (dl, given, e₀, e₁, bump-counted n)

    -- at a decision after n rounds, where so many decisions at most follow
    abbrev AtDecision : ℕ → Type 0
    AtDecision f = (pc n : ℕ) (still : Bool) (s : State) (regs cs : List ℕ) → Safe p sub pc s.at regs → turn p sub pc s.at regs cs ≡ deciding p q (counted n) still s.at regs cs → (least - n) + length cs < f → Mirrored s regs → GoesOn next r s regs cs k
        → Treads p sub pc s.at regs cs (laps (follow sub a) least most g f n still s cs ▸ k)

    -- one more round, from its first node
    a-round : (f : ℕ) → AtDecision f → (n : ℕ) (s : State) (regs cs : List ℕ) → Mirrored s regs → (least - suc n) + length cs < f → GoesOn next r s regs cs k
        → Treads p sub body s.at (set2 regs r (bump (counted n)) s.at) cs ((follow sub a s cs ▸ (λ u es. laps (follow sub a) least most g f (suc n) (eqb s.at u.at) u es)) ▸ k)
    a-round f rec n s regs cs m b h =
        rw (on-on (follow sub a s cs) (λ u es. laps (follow sub a) least most g f (suc n) (eqb s.at u.at) u es) k)
        (v s (set2 regs r (bump (counted n)) s.at) cs _ (mirrors-set2 p sub (emits p sub) r (bump (counted n)) s.at l m) (λ t regs' ds l' w.
        rec loop (suc n) (eqb s.at t.at) t regs' ds (safe-loop t regs' w.mirrors) (again-here n s t regs regs' ds m w) (omega arith) w.mirrors
        (λ u regs'' es l'' w'. h u regs'' es (omega arith) (later-still p sub (emits p sub) (outside p sub (emits p sub) regs r (bump (counted n)) s.at w) w'))))

    abbrev rounds_of : ℕ → ℕ → Follow
    rounds_of f n t ds = follow sub a t ds ▸ (λ u es. laps (follow sub a) least most g f (suc n) (eqb t.at u.at) u es)

    on-way : (f : ℕ) → AtDecision f → (pc n : ℕ) (still : Bool) (s : State) (regs cs : List ℕ) (d : Next) → decision least most g n still ≡ d → Safe p sub pc s.at regs → turn p sub pc s.at regs cs ≡ deciding p q (counted n) still s.at regs cs → (least - n) + length cs < suc f → Mirrored s regs → GoesOn next r s regs cs k
        → Treads p sub pc s.at regs cs (steps_then 1 (settling d s cs (rounds_of f n) ▸ k))
    unfolding settling choosing either_way settled either_turn ◌▸◌ chose
    on-way f rec pc n still s regs cs round e z t b m h =
        move-on pc s.at regs cs 0 body s.at (set2 regs r (bump (counted n)) s.at) cs _ z (t ∙ decided n still round s.at regs cs e ∙ begins n s.at regs cs) (a-round f rec n s regs cs m (omega (arith, owed n still s e)) h)
    on-way f rec pc n still s regs cs leave e z t b m h =
        move-on pc s.at regs cs 0 next s.at regs cs (k s cs) z (t ∙ decided n still leave s.at regs cs e ∙ leaves s.at regs cs) (h s regs cs (omega arith) (at_once p sub (emits p sub) r s regs m))
    on-way f rec pc n still s regs [] (either d) e z t b m h = stop-at pc s.at regs [] 1 z (t ∙ decided n still (either d) s.at regs [] e)
    on-way f rec pc n still s regs (zero ∷ cs) (either d) e z t b m h =
        move-on pc s.at regs (zero ∷ cs) 0 next s.at regs cs (k (chose (go_on d) s) cs) z (t ∙ decided n still (either d) s.at regs (zero ∷ cs) e ∙ leaves s.at regs cs)
        (h (chose (go_on d) s) regs cs (omega arith) (later-chose p sub (emits p sub) (go_on d) (at_once p sub (emits p sub) r (chose (go_on d) s) regs (mirrors-chose p sub (emits p sub) (go_on d) m))))
    on-way f rec pc n still s regs (suc zero ∷ cs) (either d) e z t b m h =
        move-on pc s.at regs (suc zero ∷ cs) 0 body s.at (set2 regs r (bump (counted n)) s.at) cs _ z (t ∙ decided n still (either d) s.at regs (suc zero ∷ cs) e ∙ begins n s.at regs cs)
        (a-round f rec n (chose (again d) s) regs cs (mirrors-chose p sub (emits p sub) (again d) m) (omega (arith, less n)) (λ u regs' es l' w. h u regs' es (omega arith) (later-chose p sub (emits p sub) (again d) w)))
    on-way f rec pc n still s regs (suc (suc c) ∷ cs) (either d) e z t b m h = stop-at pc s.at regs (suc (suc c) ∷ cs) 1 z (t ∙ decided n still (either d) s.at regs (suc (suc c) ∷ cs) e)

    at-decision : (f : ℕ) → AtDecision f
    unfolding laps
    at-decision zero pc n still s regs cs z e b m h = absurd (omega arith)
    at-decision (suc f) pc n still s regs cs z e b m h = rw (one-step (settling (decision least most g n still) s cs (rounds_of f n)) k) (on-way f (at-decision f) pc n still s regs cs (decision least most g n still) refl z e b m h)

  carries-repeat : (place least : ℕ) (most : Most) (g : Greed) (a : Rule) (pc next r body loop q : ℕ) → BoundsFit least most → repeat_at p q ≡ record { least = least; most = most; greed = g; register = r; body = body; next = next } → r + 2 ≤ registers
      → ((s : State) (regs : List ℕ) → Mirrored s regs → Safe p sub pc s.at regs) → ((s : State) (regs : List ℕ) → Mirrored s regs → Safe p sub loop s.at regs) → ((at : ℕ) (regs cs : List ℕ) → turn p sub pc at regs cs ≡ deciding p q 0 false at regs cs) → decode p loop ≡ loops q → spans_length ≤ r
      → Carries (follow sub a) body loop (r + 2) → Carries (follow sub (repeat place least most g a)) pc next r
  unfolding follow
  carries-repeat place least most g a pc next r body loop q fit given room f f' d d' l v s regs cs k m h =
      at-decision least most g a next r body loop q fit given room f' d' l v k (suc (least + length cs)) pc 0 false s regs cs (f s regs m) (d s.at regs cs ∙ rw counted_none) (omega arith) m h

  -- Branches --------------------------------------------------------------------------

  -- a walk begun with a choice
  carries-chose : (n : ℕ) (m : Follow) (pc next r : ℕ) → Carries m pc next r → (s : State) (regs cs : List ℕ) (k : Follow) → Mirrored s regs → GoesOn next r s regs cs k → Treads p sub pc s.at regs cs (m (chose (branch n) s) cs ▸ k)
  unfolding chose
  carries-chose n m pc next r v s regs cs k f h = v (chose (branch n) s) regs cs k (mirrors-chose p sub (emits p sub) (branch n) f) (λ t regs' ds l w. h t regs' ds l (later-chose p sub (emits p sub) (branch n) w))

  -- the branch of a number is begun, or there is none
  begun-branch : (pc body : ℕ) (s : State) (regs cs : List ℕ) (c : ℕ) (rest : Trail) → Safe p sub pc s.at regs → turn p sub pc s.at regs (c ∷ cs) ≡ branching p (body_of p c pc) s.at regs cs → body_of p c pc ≡ some body → Treads p sub body s.at regs cs rest
      → Treads p sub pc s.at regs (c ∷ cs) (steps_then 1 rest)
  unfolding branching
  begun-branch pc body s regs cs c rest z t e w = move-on pc s.at regs (c ∷ cs) 0 body s.at regs cs rest z (t ∙ ap (λ (o : Option ℕ). branching p o s.at regs cs) e) w

  no-branch : (pc : ℕ) (s : State) (regs cs : List ℕ) (c : ℕ) → Safe p sub pc s.at regs → turn p sub pc s.at regs (c ∷ cs) ≡ branching p (body_of p c pc) s.at regs cs → body_of p c pc ≡ none → Treads p sub pc s.at regs (c ∷ cs) strays
  unfolding branching steps_then
  no-branch pc s regs cs c z t e = stop-at pc s.at regs (c ∷ cs) 0 z (t ∙ ap (λ (o : Option ℕ). branching p o s.at regs cs) e)

  -- behind a branch stands the one that it goes on to
  next-body : (pc body other c : ℕ) → decode p pc ≡ branches body other → body_of p (suc c) pc ≡ body_of p c other
  unfolding body_of on_from
  next-body pc body other c d = rw d

  this-body : (pc body other : ℕ) → decode p pc ≡ branches body other → body_of p 0 pc ≡ some body
  unfolding body_of
  this-body pc body other d = rw d

  last-body : (pc body : ℕ) → decode p pc ≡ last_branch body → body_of p 0 pc ≡ some body
  unfolding body_of
  last-body pc body d = rw d

  no_body : (pc body c : ℕ) → decode p pc ≡ last_branch body → body_of p (suc c) pc ≡ none
  unfolding body_of on_from
  no_body pc body c d = rw d

  branch-node : (pc body other : ℕ) → get_or p pc 0 ≡ 5 → get_or p (pc + 1) 0 ≡ body → get_or p (pc + 2) 0 ≡ other → decode p pc ≡ branches body other
  branch-node pc body other e f g = decode-at p pc 5 e ∙ rw (f, g)

  -- so many branches later
  bodies-skip : (lo hi : ℕ) (bs : Branches) (pc other next r : ℕ) → CompiledBranches p lo hi bs pc other next r → (c : ℕ) → body_of p (branch_count bs + c) pc ≡ body_of p c other
  unfolding branch_count CompiledBranches
  bodies-skip lo hi (one a) pc other next r w c =
      let e : 1 + c ≡ suc c = omega arith in
      ap (λ (n : ℕ). body_of p n pc) e ∙ next-body pc w.body other c (branch-node pc w.body other w.node.is w.goes w.fails)
  bodies-skip lo hi (also bs bar b) pc other next r w c =
      let e : suc (branch_count bs) + c ≡ branch_count bs + suc c = omega arith in
      ap (λ (n : ℕ). body_of p n pc) e ∙ bodies-skip lo hi bs pc w.last next r w.others (suc c) ∙ next-body w.last w.body other c (branch-node w.last w.body other w.node.is w.goes w.fails)

  -- the first branch's node
  first-branch : (lo hi : ℕ) (bs : Branches) (pc other next r : ℕ) → CompiledBranches p lo hi bs pc other next r → (get_or p pc 0 ≡ 5) × (pc + 3 ≤ hi)
  unfolding CompiledBranches
  first-branch lo hi (one a) pc other next r w = (w.node.is, w.node.high)
  first-branch lo hi (also bs bar b) pc other next r w = first-branch lo hi bs pc w.last next r w.others

  -- Rules -----------------------------------------------------------------------------

  module _ (lo hi : ℕ) (within : hi ≤ length p) (bytes : Bytes sub) where
    items : (i : Item) (place pc next r : ℕ) → CompiledItem p lo hi i place pc next → Carries (follow sub (item place i)) pc next r
    items (byte_in folded c) place pc next r k =
        let o = k.node in
        carries-item place (byte_in folded c) (in_set (has (drop (pc + 3) p))) pc next r (λ s regs g. safe pc 0 s regs o.is (λ x. omega arith) (fits p pc 0 o.is (omega (arith, o.high)) (omega (arith, o.high))) g) (decode-at p pc 0 o.is ∙ rw (k.goes, k.origin)) (λ s regs e. (unfold toll price in refl, agree-byte sub s regs bytes folded c (has (drop (pc + 3) p)) k.set))
    items (assert a) place pc next r k =
        let o = k.node in
        carries-item place (assert a) (holding a) pc next r (λ s regs g. safe pc 1 s regs o.is (λ x. omega arith) (fits p pc 1 o.is (omega (arith, o.high)) (omega (arith, o.high))) g) (decode-at p pc 1 o.is ∙ rw (k.goes, k.origin, k.which, assertion-read a)) (λ s regs e. (unfold toll price in refl, agree-assert sub s regs a))
    items (reference folded n) place pc next r k =
        let o = k.node in
        carries-item place (reference folded n) (same_as folded (slot n)) pc next r (λ s regs g. safe pc 11 s regs o.is (λ x. omega arith) (fits p pc 11 o.is (omega (arith, o.high)) (omega (arith, o.high), rw k.span k.fits)) g) (decode-at p pc 11 o.is ∙ rw (k.goes, k.origin, k.span, k.folds, folded_read folded)) (λ s regs e. (unfold toll price in rw e, agree-reference sub s regs folded n e))

    -- an alternation's first node reads the choice
    branch-safe : (pc : ℕ) (s : State) (regs : List ℕ) → get_or p pc 0 ≡ 5 → pc + 3 ≤ hi → Mirrored s regs → Safe p sub pc s.at regs
    branch-safe pc s regs e h g = safe pc 5 s regs e (λ x. omega arith) (fits p pc 5 e (omega arith) (omega arith)) g

    branch-turn : (pc at : ℕ) (regs cs : List ℕ) (c : ℕ) → get_or p pc 0 ≡ 5 → turn p sub pc at regs (c ∷ cs) ≡ branching p (body_of p c pc) at regs cs
    unfolding turn_by choosing_branch
    branch-turn pc at regs cs c e = rw (decode-at p pc 5 e)

    branch-lacks : (pc at : ℕ) (regs : List ℕ) → get_or p pc 0 ≡ 5 → turn p sub pc at regs [] ≡ astray 0
    unfolding turn_by choosing_branch
    branch-lacks pc at regs e = rw (decode-at p pc 5 e)

    -- what is not followed is not trodden either
    not-followed : (pc kind next r : ℕ) → get_or p pc 0 ≡ kind → (kind ≡ 10 → ⊥) → Fits p pc → ((at : ℕ) (regs cs : List ℕ) → turn p sub pc at regs cs ≡ astray 0) → Carries (λ s cs. strays) pc next r
    unfolding ◌▸◌ steps_then
    not-followed pc kind next r e n f d s regs cs k g h = stop-at pc s.at regs cs 0 (safe pc kind s regs e n f g) (d s.at regs cs)

    -- an alternation whose branches but the last stand from pc on; a number that is none of theirs has no body, or that of the last
    CarriesBranches : Branches → (pc next r : ℕ) → Type 0
    CarriesBranches bs pc next r = (s : State) (regs cs : List ℕ) (c : ℕ) (k : Follow) → Mirrored s regs → GoesOn next r s regs cs k → (branch_count bs ≤ c → body_of p c pc ≡ none) → Treads p sub pc s.at regs (c ∷ cs) (follow_in sub bs c s cs ▸ k)

    -- a branch is begun by its number
    begins-branch : (a : Rule) (n pc body next r : ℕ) → get_or p pc 0 ≡ 5 → pc + 3 ≤ hi → body_of p n pc ≡ some body → Carries (follow sub a) body next r → (s : State) (regs cs : List ℕ) (c : ℕ) (k : Follow) → c ≡ n → Mirrored s regs → GoesOn next r s regs cs k
        → Treads p sub pc s.at regs (c ∷ cs) (step_then (follow sub a (chose (branch n) s) cs) ▸ k)
    begins-branch a n pc body next r is high e v s regs cs c k same g h =
        rw (one-step (follow sub a (chose (branch n) s) cs) k)
        (begun-branch pc body s regs cs c (follow sub a (chose (branch n) s) cs ▸ k) (branch-safe pc s regs is high g) (branch-turn pc s.at regs cs c is) (ap (λ (m : ℕ). body_of p m pc) same ∙ e) (carries-chose n (follow sub a) body next r v s regs cs k g h))

    -- one of two paths, by a test
    by-test : (pc at : ℕ) (regs cs : List ℕ) (b : Bool) (x y : Trail) (k : Follow) → (b ≡ true → Treads p sub pc at regs cs (x ▸ k)) → (b ≡ false → Treads p sub pc at regs cs (y ▸ k)) → Treads p sub pc at regs cs ((if b then x else y) ▸ k)
    by-test pc at regs cs true x y k f g = f refl
    by-test pc at regs cs false x y k f g = g refl

    above : (c n : ℕ) → eqb c n ≡ false → n ≤ c → suc n ≤ c
    above c n e l = elim (three c n) [ inl h ↦ absurd (omega arith) | inr h ↦ elim h [ inl q ↦ absurd (eqb-false c n e q) | inr q ↦ omega arith ] ]

    none-behind : (c n : ℕ) → suc n ≤ c → (k : ℕ) × (c ≡ n + suc k)
    none-behind c n l = (c - suc n, omega arith)

    fewer : (next r c : ℕ) (s : State) (regs cs : List ℕ) (k : Follow) → GoesOn next r s regs (c ∷ cs) k → GoesOn next r s regs cs k
    fewer next r c s regs cs k h t regs' ds l w = h t regs' ds (omega arith) w

    carries-one : (a : Rule) (pc other next r body : ℕ) → get_or p pc 0 ≡ 5 → pc + 3 ≤ hi → decode p pc ≡ branches body other → Carries (follow sub a) body next r → CarriesBranches (one a) pc next r
    unfolding CarriesBranches follow_in branch_count ◌▸◌
    carries-one a pc other next r body is high d v s regs cs c k g h n = by-test pc s.at regs (c ∷ cs) (eqb c 0) (step_then (follow sub a (chose (branch 0) s) cs)) strays k
        (λ e. begins-branch a 0 pc body next r is high (this-body pc body other d) v s regs cs c k (eqb-true c 0 e) g h)
        (λ e. no-branch pc s regs cs c (branch-safe pc s regs is high g) (branch-turn pc s.at regs cs c is) (n (above c 0 e (omega arith))))

    -- the number behind those of some branches
    body-behind : (bs : Branches) (pc other next r body : ℕ) → CompiledBranches p lo hi bs pc other next r → body_of p 0 other ≡ some body → body_of p (branch_count bs) pc ≡ some body
    body-behind bs pc other next r body w e =
        let e₀ : branch_count bs ≡ branch_count bs + 0 = omega arith in
        ap (λ (n : ℕ). body_of p n pc) e₀ ∙ bodies-skip lo hi bs pc other next r w 0 ∙ e

    carries-also : (bs : Branches) (bar : ℕ) (b : Rule) (pc last other next r body : ℕ) → CompiledBranches p lo hi bs pc last next r → decode p last ≡ branches body other → CarriesBranches bs pc next r → Carries (follow sub b) body next r → CarriesBranches (also bs bar b) pc next r
    unfolding CarriesBranches follow_in branch_count
    carries-also bs bar b pc last other next r body w d v u s regs cs c k g h n =
        let f = first-branch lo hi bs pc last next r w in
        by-test pc s.at regs (c ∷ cs) (eqb c (branch_count bs)) (step_then (follow sub b (chose (branch (branch_count bs)) s) cs)) (follow_in sub bs c s cs) k
        (λ e. begins-branch b (branch_count bs) pc body next r f.0 f.1 (body-behind bs pc last next r body w (this-body last body other d)) u s regs cs c k (eqb-true c (branch_count bs) e) g h)
        (λ e. v s regs cs c k g h (λ l. n (above c (branch_count bs) e l)))

    carries-alt : (bs : Branches) (bar : ℕ) (b : Rule) (pc last next r body : ℕ) → CompiledBranches p lo hi bs pc last next r → decode p last ≡ last_branch body → CarriesBranches bs pc next r → Carries (follow sub b) body next r → Carries (follow sub (alt bs bar b)) pc next r
    unfolding CarriesBranches follow choosing ◌▸◌ steps_then
    carries-alt bs bar b pc last next r body w d v u s regs [] k g h =
        let f = first-branch lo hi bs pc last next r w in
        stop-at pc s.at regs [] 0 (branch-safe pc s regs f.0 f.1 g) (branch-lacks pc s.at regs f.0)
    carries-alt bs bar b pc last next r body w d v u s regs (c ∷ cs) k g h =
        let f = first-branch lo hi bs pc last next r w in
        let h' = fewer next r c s regs cs k h in
        by-test pc s.at regs (c ∷ cs) (eqb c (branch_count bs)) (step_then (follow sub b (chose (branch (branch_count bs)) s) cs)) (follow_in sub bs c s cs) k
        (λ e. begins-branch b (branch_count bs) pc body next r f.0 f.1 (body-behind bs pc last next r body w (last-body last body d)) u s regs cs c k (eqb-true c (branch_count bs) e) g h')
        (λ e. v s regs cs c k g h' (λ l. let z = none-behind c (branch_count bs) (above c (branch_count bs) e l) in ap (λ (n : ℕ). body_of p n pc) z.1 ∙ bodies-skip lo hi bs pc last next r w (suc z.0) ∙ no_body last body z.0 d))

    -- a repeat, or a run, is entered by a decision after no round
    enters-turn : (pc at : ℕ) (regs cs : List ℕ) → get_or p pc 0 ≡ 7 → turn p sub pc at regs cs ≡ deciding p (pc + 2) 0 false at regs cs
    unfolding turn_by
    enters-turn pc at regs cs e = rw (decode-at p pc 7 e)

    runs-turn : (pc at : ℕ) (regs cs : List ℕ) → get_or p pc 0 ≡ 10 → turn p sub pc at regs cs ≡ deciding p (pc + 2) 0 false at regs cs
    unfolding turn_by
    runs-turn pc at regs cs e = rw (decode-at p pc 10 e)

    -- what is not followed: a break, a mark, a negative looking ahead
    break-turn : (pc at : ℕ) (regs cs : List ℕ) → get_or p pc 0 ≡ 12 → turn p sub pc at regs cs ≡ astray 0
    unfolding turn_by
    break-turn pc at regs cs e = rw (decode-at p pc 12 e)

    mark-turn : (pc at : ℕ) (regs cs : List ℕ) → get_or p pc 0 ≡ 13 → turn p sub pc at regs cs ≡ astray 0
    unfolding turn_by
    mark-turn pc at regs cs e = rw (decode-at p pc 13 e)

    forbid-turn : (pc at : ℕ) (regs cs : List ℕ) → get_or p pc 0 ≡ 16 → turn p sub pc at regs cs ≡ astray 0
    unfolding turn_by
    forbid-turn pc at regs cs e = rw (decode-at p pc 16 e)

    carries-empty : (pc next r : ℕ) → pc ≡ next → Carries (follow sub empty) pc next r
    unfolding follow ◌▸◌
    carries-empty pc next r e s regs cs k f h = rw e (h s regs cs (omega arith) (at_once p sub (emits p sub) r s regs f))

    -- a run's body is the node of a byte item
    one-byte-fits : (g : Greed) (a : Rule) (body loop r : ℕ) → RunOf g a → Compiled p lo hi a body loop r → body + 11 ≤ length p
    unfolding Compiled
    one-byte-fits Greedy (item place (byte_in folded c)) body loop r h k = omega (arith, k.node.high)
    one-byte-fits Greedy (seq empty b) body loop r h k = rw k.left (one-byte-fits Greedy b k.mid loop r h k.right)
    one-byte-fits Greedy empty body loop r h k = elim h [ ]
    one-byte-fits Greedy (item place (assert _)) body loop r h k = elim h [ ]
    one-byte-fits Greedy (item place (reference _ _)) body loop r h k = elim h [ ]
    one-byte-fits Greedy (seq (item _ _) b) body loop r h k = elim h [ ]
    one-byte-fits Greedy (seq (seq _ _) b) body loop r h k = elim h [ ]
    one-byte-fits Greedy (seq (alt _ _ _) b) body loop r h k = elim h [ ]
    one-byte-fits Greedy (seq (group _ _) b) body loop r h k = elim h [ ]
    one-byte-fits Greedy (seq (repeat _ _ _ _ _) b) body loop r h k = elim h [ ]
    one-byte-fits Greedy (seq (held _ _) b) body loop r h k = elim h [ ]
    one-byte-fits Greedy (seq (look _ _ _) b) body loop r h k = elim h [ ]
    one-byte-fits Greedy (alt _ _ _) body loop r h k = elim h [ ]
    one-byte-fits Greedy (group _ _) body loop r h k = elim h [ ]
    one-byte-fits Greedy (repeat _ _ _ _ _) body loop r h k = elim h [ ]
    one-byte-fits Greedy (held _ _) body loop r h k = elim h [ ]
    one-byte-fits Greedy (look _ _ _) body loop r h k = elim h [ ]
    one-byte-fits Lazy a body loop r h k = elim h [ ]

    mutual
      unfolding Compiled CompiledBranches follow

      -- where a rule stands compiled, following treads its path
      pub works : (x : Rule) (pc next r : ℕ) → Compiled p lo hi x pc next r → spans_length ≤ r → Carries (follow sub x) pc next r
      works empty pc next r c l = carries-empty pc next r c
      works (item place i) pc next r c l = items i place pc next r c
      works (seq a b) pc next r c l = carries-seq a b pc next r c.mid (works a pc c.mid r c.left l) (works b c.mid next r c.right l)
      works (alt bs bar b) pc next r c l = carries-alt bs bar b pc c.last next r c.body c.others (decode-at p c.last 6 c.node.is ∙ rw c.goes) (works-branches bs pc c.last next r c.others l) (works b c.body next r c.inner l)
      works (group n a) pc next r c l =
          let o = c.opening in
          let d = c.node in
          carries-group n a pc next r c.body c.close
          (λ s regs g. safe pc 3 s regs o.is (λ x. omega arith) (fits p pc 3 o.is (omega (arith, o.high)) (omega (arith, o.high), rw c.opener c.room)) g)
          (λ s regs g. safe c.close 4 s regs d.is (λ x. omega arith) (fits p c.close 4 d.is (omega (arith, d.high)) (omega (arith, d.high), rw c.closer c.room, rw c.span c.fits)) g)
          (decode-at p pc 3 o.is ∙ rw (c.enters, c.opener)) (decode-at p c.close 4 d.is ∙ rw (c.goes, c.closer, c.span))
          c.fits l c.room (works a c.body c.close (r + 2) c.inner (omega arith))
      works (repeat place least most g a) pc next r c l =
          let o = c.node in
          let two : pc + 1 + 1 ≡ pc + 2 = omega arith in
          let e₀ : pc + 2 + 1 ≡ pc + 3 = omega arith in
          let e₁ : pc + 2 + 2 ≡ pc + 4 = omega arith in
          let e₂ : pc + 2 + 3 ≡ pc + 5 = omega arith in
          let e₃ : pc + 2 + 4 ≡ pc + 6 = omega arith in
          let e₄ : pc + 2 + 5 ≡ pc + 7 = omega arith in
          let e₅ : pc + 1 + 1 + 3 ≡ pc + 5 = omega arith in
          let given = repeat_read p (pc + 2) least most g r c.body next c.bounds c.least (rw e₀ c.most) (rw e₁ c.greed) (rw e₂ c.register) (rw e₃ c.enters) (rw e₄ c.goes) in
          let two-fit : RepeatFits p (pc + 2) = (omega (arith, o.high), rw (e₂, c.register) c.room) in
          let loop-fit = fits p (pc + 1) 8 c.loop (omega (arith, o.high)) (omega (arith, o.high), rw (e₅, c.register) c.room) in
          let loop-safe : (s : State) (regs : List ℕ) → Mirrored s regs → Safe p sub (pc + 1) s.at regs = λ s regs m. safe (pc + 1) 8 s regs c.loop (λ x. omega arith) loop-fit m in
          let dl = decode-at p (pc + 1) 8 c.loop ∙ ap loops two in
          let v = works a c.body (pc + 1) (r + 2) c.inner (omega arith) in
          elim c.entered [
            | inl is ↦ carries-repeat place least most g a pc next r c.body (pc + 1) (pc + 2) c.bounds given c.room
                (λ s regs m. safe pc 7 s regs (o.is ∙ is) (λ x. omega arith) (fits p pc 7 (o.is ∙ is) (omega (arith, o.high)) two-fit) m)
                loop-safe (λ at regs cs. enters-turn pc at regs cs (o.is ∙ is)) dl l v
            | inr is ↦ carries-repeat place least most g a pc next r c.body (pc + 1) (pc + 2) c.bounds given c.room
                (λ s regs m. record { fits = fits p pc 10 (o.is ∙ is.0) (omega (arith, o.high)) (omega (arith, o.high), rw c.enters (one-byte-fits g a c.body (pc + 1) (r + 2) is.1 c.inner)); run_fits = λ _. two-fit; inside = m.inside; size = m.size })
                loop-safe (λ at regs cs. runs-turn pc at regs cs (o.is ∙ is.0)) dl l v
          ]
      works (held place a) pc next r c l = elim c [
        | inl x ↦ (let o = x.1.node in not-followed pc 12 next r o.is (λ x. omega arith) (fits p pc 12 o.is (omega (arith, o.high)) (omega (arith, o.high))) (λ at regs cs. break-turn pc at regs cs o.is))
        | inr x ↦ (let o = x.opening in not-followed pc 13 next r o.is (λ x. omega arith) (fits p pc 13 o.is (omega (arith, o.high)) (omega (arith, o.high), rw x.opener x.room)) (λ at regs cs. mark-turn pc at regs cs o.is))
      ]
      works (look place false a) pc next r c l = let o = c.opening in not-followed pc 13 next r o.is (λ x. omega arith) (fits p pc 13 o.is (omega (arith, o.high)) (omega (arith, o.high), rw c.opener c.room)) (λ at regs cs. mark-turn pc at regs cs o.is)
      works (look place true a) pc next r c l = let o = c.opening in not-followed pc 16 next r o.is (λ x. omega arith) (fits p pc 16 o.is (omega (arith, o.high)) (omega (arith, o.high), rw c.opener c.room)) (λ at regs cs. forbid-turn pc at regs cs o.is)

      works-branches : (bs : Branches) (pc other next r : ℕ) → CompiledBranches p lo hi bs pc other next r → spans_length ≤ r → CarriesBranches bs pc next r
      works-branches (one a) pc other next r w l = carries-one a pc other next r w.body w.node.is w.node.high (branch-node pc w.body other w.node.is w.goes w.fails) (works a w.body next r w.inner l)
      works-branches (also bs bar b) pc other next r w l = carries-also bs bar b pc w.last other next r w.body w.others (branch-node w.last w.body other w.node.is w.goes w.fails) (works-branches bs pc w.last next r w.others l) (works b w.body next r w.inner l)

-- A whole rule ------------------------------------------------------------------------

end-inside : (p : Program) → get_or p 0 0 ≡ 9 → 0 < length p
end-inside [] e = absurd (omega arith)
end-inside (n ∷ p) e = omega arith

end-turn : (p : Program) (sub : List ℕ) (at : ℕ) (regs cs : List ℕ) → get_or p 0 0 ≡ 9 → turn p sub 0 at regs cs ≡ finished
unfolding turn_by
end-turn p sub at regs cs e = rw (decode-at p 0 9 e)

-- from a start, over the registers of no group, the path of the choices is trodden to the rule's end
pub treads-path : (p : Program) (sub : List ℕ) (x : Rule) (pc start : ℕ) (regs choices : List ℕ) → Stands p x pc → Bytes sub → Clear regs → start ≤ length sub → Treads p sub pc start regs choices (path_of sub x start choices)
unfolding path_of starting
treads-path p sub x pc start regs cs h bytes clear inside =
    works p sub h.low h.high h.within bytes x pc 0 spans_length h.compiled (omega arith) (starting start) regs cs (λ t ds. step_then (arrives t ds)) (record { inside = inside; size = clear.size; spans = sym clear.spans })
    (λ t regs' ds l w. ended t (safe p sub 0 9 t regs' h.end (λ e. omega arith) (fits p 0 9 h.end (end-inside p h.end) tt) w.mirrors) (end-turn p sub t.at regs' ds h.end) refl w.mirrors.spans refl)
