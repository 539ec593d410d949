-- Where a rule stands compiled, the machine emits the rule's walk: one induction over the rule, with a lemma for each form.
use Rattle.std.specs.Prelude.{◌≡◌, Bool, length, drop, take, ltb, eqb}
use Rattle.std.proofs.Math.Path.{refl, ap, subst, fun_ext}
use Rattle.std.proofs.Common.{sym, ◌∙◌, inl, ltb-true, ltb-false, lt-ltb, le-ltb}
use mathlib.Core.List.{List, [], ◌∷◌, ◌++◌, append_assoc, append-nil}
use Rattle.std.proofs.Math.Logic.{inr}
use Rattle.std.proofs.Math.Bool.{true, false}
use Prim.Native.Nat.{ℕ, zero, suc, ◌+◌, ◌-◌, ◌≤◌, ◌<◌}
use native.Mathlib.Omega.{arith}
use Rattle.std.proofs.Math.ListN.{get_or}
use Rattle.charset.specs.Class.{has}
use Rattle.syntax.specs.declared.Assertion.{Assertion}
use Rattle.syntax.specs.declared.Greed.{Greed}
use Rattle.syntax.specs.declared.Greed.TheVariants.{Greedy, Lazy}
use Rattle.syntax.specs.declared.Most.{Most}
use Rattle.syntax.specs.Limits.{spans_length, slot, registers}
use Rattle.syntax.specs.Read.{byte}
use Rattle.syntax.specs.Sets.{Class, in_class}
use Rattle.syntax.specs.Tree.{Item, byte_in, assert, reference, Rule, empty, item, seq, alt, group, repeat, held, look, Branches, one, also, line_break, branch_count}
use Rattle.syntax.specs.WellFormed.{BoundsFit}
use Rattle.syntax.specs.Compiled.{RunOf, CompiledItem, Compiled, CompiledBranches}
use Rattle.semantics.specs.States.{Choice, branch, again, go_on, State, chose, moved, closed}
use Rattle.semantics.specs.Items.{Tried, fails, goes, when, refer, toll, try}
use Rattle.semantics.specs.Repeats.{Next, round, leave, either, is_full, decision}
use Rattle.semantics.specs.Walk.{step, miss, end, Trace, Go, ◌▹◌, done, tried, paying, decide, to_first, ending, entering, rounds, enough, walk, walks}
use Rattle.semantics.proofs.Laws.Traces.{bind-append, bind-bind, bind_done, bind-end}
use Rattle.semantics.proofs.Laws.Right.{try-reach}
use Rattle.semantics.proofs.Laws.Rounds.{unless_idle, left, fewer}
use Rattle.semantics.proofs.Laws.Misses.{tells}
use Rattle.semantics.proofs.Laws.Cases.{clash}
use Rattle.semantics.specs.Demands.{In}
use Rattle.machine.specs.Code.{Program, Test, in_set, holding, same_as, Instruction, tests, opens, closes, branches, last_branch, enters, loops, runs, breaks, marks, keeps, returns, forbids, refutes, repeat_at, decode, Fits}
use Rattle.machine.specs.Moves.{Bytes, explore, stretch, Stack, idle, emitting, set2, saved, state, Shows, go, go_set, cut, cut_to, tested, price, takes, extent, allowance, strides, stopped, descend, below, ends_of, is_return, is_feed, is_break, fall, decides, ran, broke_alone, broke, bytes_of, carry_out, Emits}
use Rattle.machine.specs.Laws.Code.{assertion-read, folded_read, repeat_read, decode-at, fits}
use Rattle.machine.specs.Laws.Registers.{length-set2, get_or-set2, first-set2, second-set2, take_behind, take_within}
use Rattle.machine.specs.Laws.Run.{Account, silent, Way, Minds, plain, join, fall-saved, within, Open, Observer, emits, Says, says-step, says-miss, Run, says-move, run-miss, run-hit, run-open, run-close, run-branch, run-last, run-decides, run_end}
use Rattle.machine.specs.Laws.Extent.{byte_small, takes-inside, owed-room, extent-none, extent-full, extent-more, owed-hit, owed-miss, at_most, both-hit, both-miss}
use Rattle.machine.specs.Laws.Breaks.{broken_by, break-bind}
use Rattle.machine.specs.Laws.Rounds.{counted, counted_none, bump-counted, decision-counted}

-- Items: the machine's test and the rule's item -------------------------------

-- an item of the rule and the machine's test go the same way, and leave the captures alone
abbrev pub Agree : State → Tried → Tried → Type 0
Agree s fails fails = Unit {0}
Agree s fails (goes u) = ⊥
Agree s (goes t) fails = ⊥
Agree s (goes t) (goes u) = (t.at ≡ u.at) × (t.spans ≡ s.spans)

agree-when : (s : State) (b c : Bool) (x y : Tried) → (b ≡ c) → (b ≡ true → Agree s x y) → Agree s (when b x) (when c y)
unfolding when
agree-when s true true x y e h = h refl
agree-when s true false x y e h = let z : ◌≡◌ {A = ℕ} 0 1 = cc in absurd (omega arith)
agree-when s false true x y e h = let z : ◌≡◌ {A = ℕ} 0 1 = cc in absurd (omega arith)
agree-when s false false x y e h = tt

module _ (sub : List ℕ) (s : State) (regs : List ℕ) where
  pub agree-byte : Bytes sub → (folded : Bool) (c : Class) (f : ℕ → Bool) → ((x : ℕ) → x < 256 → f x ≡ in_class folded c x) → Agree s (try sub (byte_in folded c) s) (tested sub (in_set f) (state s.at regs))
  unfolding try tested moved
  agree-byte bytes folded c f same = agree-when s _ _ _ _ refl (λ e. agree-when s _ _ _ _ (sym (same (byte sub s.at) (byte_small sub bytes s.at (ltb-true s.at (length sub) e)))) (λ _. (refl, refl)))

  pub agree-assert : (a : Assertion) → Agree s (try sub (assert a) s) (tested sub (holding a) (state s.at regs))
  unfolding try tested
  agree-assert a = agree-when s _ _ _ _ refl (λ _. (refl, refl))

  pub agree-reference : (folded : Bool) (n : ℕ) → s.spans ≡ take spans_length regs → Agree s (try sub (reference folded n) s) (tested sub (same_as folded (slot n)) (state s.at regs))
  unfolding try tested refer moved
  agree-reference folded n e = rw (← e) (agree-when s _ _ _ _ refl (λ _. agree-when s _ _ _ _ refl (λ _. agree-when s _ _ _ _ refl (λ _. (refl, refl)))))

-- Carrying out a walk ---------------------------------------------------------

module _ (p : Program) (sub : List ℕ) {A : Account} (O : Observer p sub A) where
  -- the registers are those of a state within the subject
  pub record Mirrors (s : State) (regs : List ℕ) : Type 0 where
    pub inside : s.at ≤ length sub
    pub size : length regs ≡ registers
    pub spans : s.spans ≡ take spans_length regs

  -- a later state and its registers; those that are no captures and stand below r are as they were
  pub record Later (r : ℕ) (s : State) (regs : List ℕ) (s' : State) (regs' : List ℕ) : Type 0 where
    pub on : s.at ≤ s'.at
    pub mirrors : Mirrors s' regs'
    pub kept : (i : ℕ) → spans_length ≤ i → i < r → get_or regs' i 0 ≡ get_or regs i 0

  -- at the node `next` the machine emits what k does, from every later state
  abbrev pub GoesOn : Way A → (next r : ℕ) → State → List ℕ → Go → Type 0
  GoesOn W next r s regs k = (s' : State) (regs' : List ℕ) → Later r s regs s' regs' → Run p sub O W next s'.at regs' (k s')

  -- from pc the machine carries out the walk m, and goes on at `next`; it uses the registers from r on
  abbrev pub Carries : Go → (pc next r : ℕ) → Type 1
  Carries m pc next r = (W : Way A) (s : State) (regs : List ℕ) (k : Go) → Mirrors s regs → GoesOn W next r s regs k → Run p sub O W pc s.at regs (m s ▹ k)

  pub at_once : (r : ℕ) (s : State) (regs : List ℕ) → Mirrors s regs → Later r s regs s regs
  at_once r s regs f = record { on = omega arith; mirrors = f; kept = λ i _ _. refl }

  pub later-still : {r : ℕ} {s t u : State} {regs regs' regs'' : List ℕ} → Later r s regs t regs' → Later r t regs' u regs'' → Later r s regs u regs''
  later-still x y = record { on = omega (arith, x.on, y.on); mirrors = y.mirrors; kept = λ i l h. y.kept i l h ∙ x.kept i l h }

  -- choices are of no account here
  pub mirrors-chose : (c : Choice) {s : State} {regs : List ℕ} → Mirrors s regs → Mirrors (chose c s) regs
  unfolding chose
  mirrors-chose c f = record { inside = f.inside; size = f.size; spans = f.spans }

  pub later-chose : (c : Choice) {r : ℕ} {s s' : State} {regs regs' : List ℕ} → Later r (chose c s) regs s' regs' → Later r s regs s' regs'
  unfolding chose
  later-chose c n = record { on = n.on; mirrors = n.mirrors; kept = n.kept }

  -- the two registers of a group or a repeat are of no account outside
  pub outside : {s s' : State} {regs' : List ℕ} (regs : List ℕ) (r x y : ℕ) → Later (r + 2) s (set2 regs r x y) s' regs' → Later r s regs s' regs'
  outside regs r x y n = record { on = n.on; mirrors = n.mirrors; kept = λ i l h. n.kept i l (omega arith) ∙ get_or-set2 regs r x y i (omega arith) (omega arith) }

  pub mirrors-set2 : {s : State} {regs : List ℕ} (j x y : ℕ) → spans_length ≤ j → Mirrors s regs → Mirrors s (set2 regs j x y)
  mirrors-set2 {regs = regs} j x y l f = record { inside = f.inside; size = length-set2 regs j x y ∙ f.size; spans = f.spans ∙ sym (take_behind spans_length regs j x y l) }

  -- a walk begun with a choice
  carries-chose : (c : Choice) (m : Go) (pc next r : ℕ) → Carries m pc next r → (W : Way A) (s : State) (regs : List ℕ) (k : Go) → Mirrors s regs → GoesOn W next r s regs k → Run p sub O W pc s.at regs (m (chose c s) ▹ k)
  unfolding chose
  carries-chose c m pc next r v W s regs k f h = v W (chose c s) regs k (mirrors-chose c f) (λ t regs' n. h t regs' (later-chose c n))

  -- Items, sequences, branches --------------------------------------------------

  bind-paying : (n : ℕ) (es : Trace) (k : Go) → paying n es ▹ k ≡ paying n (es ▹ k)
  unfolding paying ◌▹◌
  bind-paying zero es k = refl
  bind-paying (suc n) es k = ap (λ (v : Trace). step ∷ v) (bind-paying n es k)

  carries-item : (place : ℕ) (i : Item) (x : Test) (pc next r : ℕ) → Fits p pc → decode p pc ≡ tests x place next
      → ((s : State) (regs : List ℕ) → s.spans ≡ take spans_length regs → (toll sub i s ≡ price sub x (state s.at regs)) × Agree s (try sub i s) (tested sub x (state s.at regs))) → Carries (walk sub (item place i)) pc next r
  unfolding walk tried ◌▹◌ done
  carries-item place i x pc next r f d same W s regs k g h =
      let c = same s regs g.spans in
      rw (bind-paying (toll sub i s) (tried place s (try sub i s)) k, c.0) (by (try sub i s) (tested sub x (state s.at regs)) refl refl c.1)
    where
      by : (y z : Tried) → try sub i s ≡ y → tested sub x (state s.at regs) ≡ z → Agree s y z → Run p sub O W pc s.at regs (paying (price sub x (state s.at regs)) (tried place s (try sub i s) ▹ k))
      by fails fails e e' a = rw e (run-miss p sub O W pc s.at regs f x place next d e')
      by fails (goes u) e e' a = absurd a
      by (goes t) fails e e' a = absurd a
      by (goes t) (goes u) e e' a =
          let y = try-reach sub i s t g.inside e in
          rw (e, append-nil (k t))
          (run-hit p sub O W pc s.at regs f x place next u (k t) d e'
          (subst (λ (z : ℕ). Run p sub O W next z regs (k t)) a.0 (h t regs (record { on = y.up; mirrors = record { inside = y.inside; size = g.size; spans = a.1 ∙ g.spans }; kept = λ i _ _. refl }))))

  carries-seq : (a b : Rule) (pc next r mid : ℕ) → Carries (walk sub a) pc mid r → Carries (walk sub b) mid next r → Carries (walk sub (seq a b)) pc next r
  unfolding walk
  carries-seq a b pc next r mid v w W s regs k f h = rw bind-bind (v W s regs (λ t. walk sub b t ▹ k) f (λ t regs' n. w W t regs' k n.mirrors (λ u regs'' n'. h u regs'' (later-still n n'))))

  -- From pc the machine carries out the branches, and then does what it does from the branch at `other`.
  abbrev CarriesBranches : Branches → (pc other next r : ℕ) → Type 1
  CarriesBranches bs pc other next r = (W : Way A) (s : State) (regs : List ℕ) (k : Go) → Mirrors s regs → GoesOn W next r s regs k
      → (rest : Trace) → Run p sub O W other s.at regs rest → Run p sub O W pc s.at regs ((walks sub bs s ▹ k) ++ rest)

  carries-one : (a : Rule) (pc other next r body : ℕ) → Fits p pc → decode p pc ≡ branches body other → Carries (walk sub a) body next r → CarriesBranches (one a) pc other next r
  unfolding walk ◌▹◌
  carries-one a pc other next r body f d v W s regs k g h rest z = run-branch p sub O W pc s.at regs f body other _ _ d (carries-chose (branch 0) (walk sub a) body next r v W s regs k g h) z

  carries-also : (bs : Branches) (b : Rule) (bar pc last other next r body : ℕ) → Fits p last → decode p last ≡ branches body other → CarriesBranches bs pc last next r → Carries (walk sub b) body next r
      → CarriesBranches (also bs bar b) pc other next r
  unfolding walk ◌▹◌
  carries-also bs b bar pc last other next r body f d w v W s regs k g h rest z =
      rw (bind-append, append_assoc) (w W s regs k g h _ (run-branch p sub O W last s.at regs f body other _ _ d (carries-chose (branch (branch_count bs)) (walk sub b) body next r v W s regs k g h) z))

  carries-alt : (bs : Branches) (b : Rule) (bar pc last next r body : ℕ) → Fits p last → decode p last ≡ last_branch body → CarriesBranches bs pc last next r → Carries (walk sub b) body next r
      → Carries (walk sub (alt bs bar b)) pc next r
  unfolding walk ◌▹◌
  carries-alt bs b bar pc last next r body f d w v W s regs k g h =
      rw bind-append (w W s regs k g h _ (run-last p sub O W last s.at regs f body _ d (carries-chose (branch (branch_count bs)) (walk sub b) body next r v W s regs k g h)))

  -- Groups ------------------------------------------------------------------------

  group-bind : (n : ℕ) (a : Rule) (s : State) (k : Go) → walk sub (group n a) s ▹ k ≡ step ∷ (walk sub a s ▹ (λ t. step ∷ k (closed n s.at t)))
  unfolding walk ◌▹◌ done
  group-bind n a s k = simp (bind-bind, append-nil)

  -- where a group closes, its registers have where it was opened
  pub closing : (n r : ℕ) (s t : State) (regs regs' : List ℕ) → slot n + 2 ≤ spans_length → spans_length ≤ r → r + 2 ≤ registers → Mirrors s regs → Later (r + 2) s (set2 regs r s.at 0) t regs'
      → Later r s regs (closed n s.at t) (set2 regs' (slot n) (get_or regs' r 0) t.at)
  unfolding closed
  closing n r s t regs regs' fit l room f w =
      let e : get_or regs' r 0 ≡ s.at = w.kept r l (omega arith) ∙ first-set2 regs r s.at 0 (omega (arith, f.size)) in
      record {
        on = w.on;
        mirrors = record {
          inside = w.mirrors.inside;
          size = length-set2 regs' (slot n) (get_or regs' r 0) t.at ∙ w.mirrors.size;
          spans = rw (e, w.mirrors.spans) (sym (take_within spans_length regs' (slot n) s.at t.at fit));
        };
        kept = λ i l' h. get_or-set2 regs' (slot n) (get_or regs' r 0) t.at i (omega arith) (omega arith) ∙ (outside regs r s.at 0 w).kept i l' h;
      }

  carries-group : (n : ℕ) (a : Rule) (pc next r body close : ℕ) → Fits p pc → Fits p close → decode p pc ≡ opens r body → decode p close ≡ closes r (slot n) next → slot n + 2 ≤ spans_length → spans_length ≤ r → r + 2 ≤ registers
      → Carries (walk sub a) body close (r + 2) → Carries (walk sub (group n a)) pc next r
  carries-group n a pc next r body close f f' d d' fit l room v W s regs k g h =
      rw (group-bind n a s k)
      (run-open p sub O W pc s.at regs f r body _ d (v W s (set2 regs r s.at 0) (λ t. step ∷ k (closed n s.at t)) (mirrors-set2 r s.at 0 l g)
      (λ t regs' w. run-close p sub O W close t.at regs' f' r (slot n) next _ d' (unfold closed in h (closed n s.at t) (set2 regs' (slot n) (get_or regs' r 0) t.at) (closing n r s t regs regs' fit l room g w)))))

  -- Repeats -------------------------------------------------------------------------

  -- the states at which a decision begins a round, and at which it goes on
  unfoldable turning : Next → State → State
  turning round s = s
  turning leave s = s
  turning (either g) s = chose (again g) s

  unfoldable leaving : Next → State → State
  leaving round s = s
  leaving leave s = s
  leaving (either g) s = chose (go_on g) s

  decide-bind : (d : Next) (s : State) (body k : Go) → decide d s body ▹ k ≡ join d (body (turning d s) ▹ k) (k (leaving d s))
  unfolding decide join turning leaving
  decide-bind round s body k = refl
  decide-bind leave s body k = bind_done s k
  decide-bind (either Greedy) s body k = simp (bind-append, bind_done)
  decide-bind (either Lazy) s body k = simp (bind-append, bind_done)

  carries-turning : (d : Next) (m : Go) (pc next r : ℕ) → Carries m pc next r → (W : Way A) (s : State) (regs : List ℕ) (k : Go) → Mirrors s regs → GoesOn W next r s regs k → Run p sub O W pc s.at regs (m (turning d s) ▹ k)
  unfolding turning
  carries-turning round m pc next r v W s regs k f h = v W s regs k f h
  carries-turning leave m pc next r v W s regs k f h = v W s regs k f h
  carries-turning (either g) m pc next r v W s regs k f h = carries-chose (again g) m pc next r v W s regs k f h

  carries-leaving : (d : Next) (W : Way A) (next r : ℕ) (s : State) (regs : List ℕ) (k : Go) → Mirrors s regs → GoesOn W next r s regs k → Run p sub O W next s.at regs (k (leaving d s))
  unfolding leaving chose
  carries-leaving round W next r s regs k f h = h s regs (at_once r s regs f)
  carries-leaving leave W next r s regs k f h = h s regs (at_once r s regs f)
  carries-leaving (either g) W next r s regs k f h = h (chose (go_on g) s) regs (later-chose (go_on g) (at_once r (chose (go_on g) s) regs (mirrors-chose (go_on g) f)))

  turning-at : (d : Next) (s : State) → (turning d s).at ≡ s.at
  unfolding turning chose
  turning-at round s = refl
  turning-at leave s = refl
  turning-at (either g) s = refl

  module _ (least : ℕ) (most : Most) (g : Greed) (a : Rule) (next r body loop : ℕ) (fit : BoundsFit least most) where
    module _ (q : ℕ) (given : repeat_at p q ≡ record { least = least; most = most; greed = g; register = r; body = body; next = next }) (room : r + 2 ≤ registers) (fl : Fits p loop) (dl : decode p loop ≡ loops q) (l : spans_length ≤ r) (v : Carries (walk sub a) body loop (r + 2)) (W : Way A) (k : Go) where
      -- at a decision after n rounds
      run-rounds : (f : ℕ) (i : Instruction) (pc n : ℕ) (still : Bool) (s : State) (regs : List ℕ) → Fits p pc → decode p pc ≡ i → Open i
          → ((st : Stack) → carry_out p sub i s.at regs st ≡ emitting step (decides p q (counted n) still s.at regs st))
          → Mirrors s regs → left (length sub) least n still s.at < f → GoesOn W next r s regs k → Run p sub O W pc s.at regs (rounds (walk sub a) least most g f n still s ▹ k)
      unfolding rounds ◌▹◌ carry_out turning
      run-rounds zero i pc n still s regs fp d c y z m h = absurd (omega arith)
      run-rounds (suc f) i pc n still s regs fp d c y z m h =
          let e : decision (repeat_at p q).least (repeat_at p q).most (repeat_at p q).greed (counted n) still ≡ decision least most g n still = rw given (decision-counted least most g n still fit) in
          rw (decide-bind (decision least most g n still) s (λ t. walk sub a t ▹ (λ u. rounds (walk sub a) least most g f (suc n) (eqb t.at u.at) u)) k, bind-bind, turning-at (decision least most g n still) s, ← e)
          (run-decides p sub O W i q pc (counted n) still s.at regs _ _ fp d c y
          (rw (e, given, bump-counted n) (λ b.
          carries-turning (decision least most g n still) (walk sub a) body loop (r + 2) v W s (set2 regs r (counted (suc n)) s.at) (λ u. rounds (walk sub a) least most g f (suc n) (eqb s.at u.at) u ▹ k) (mirrors-set2 r (counted (suc n)) s.at l z) (λ t regs' w.
          let e₀ : get_or regs' r 0 ≡ counted (suc n) = w.kept r l (omega arith) ∙ first-set2 regs r (counted (suc n)) s.at (omega (arith, z.size)) in
          let e₁ : get_or regs' (r + 1) 0 ≡ s.at = w.kept (r + 1) (omega arith) (omega arith) ∙ second-set2 regs r (counted (suc n)) s.at (omega (arith, z.size)) in
          let m' = fewer (length sub) least most g n still s.at t.at b w.on w.mirrors.inside in
          run-rounds f (loops q) loop (suc n) (eqb s.at t.at) t regs' fl dl tt (λ st. rw (given, e₀, e₁)) w.mirrors (omega arith) (λ u regs'' w'. h u regs'' (later-still (outside regs r (counted (suc n)) s.at w) w')))))
          (rw (e, given) (carries-leaving (decision least most g n still) W next r s regs k z h)))

    carries-repeat : (place pc : ℕ) → repeat_at p (pc + 2) ≡ record { least = least; most = most; greed = g; register = r; body = body; next = next } → r + 2 ≤ registers → Fits p pc → Fits p loop → decode p pc ≡ enters (pc + 2) → decode p loop ≡ loops (pc + 2) → spans_length ≤ r
        → Carries (walk sub a) body loop (r + 2) → Carries (walk sub (repeat place least most g a)) pc next r
    unfolding walk enough left unless_idle carry_out
    carries-repeat place pc given room f f' d d' l v W s regs k z h =
        run-rounds (pc + 2) given room f' d' l v W k (enough sub least s.at) (enters (pc + 2)) pc 0 false s regs f d tt (λ st. rw counted_none) z (omega arith) h

  -- Runs ------------------------------------------------------------------------------

  later-byte : (r : ℕ) {s : State} {regs : List ℕ} → s.at < length sub → Mirrors s regs → Later r s regs (moved (suc s.at) s) regs
  unfolding moved
  later-byte r h m = record { on = omega arith; mirrors = record { inside = omega arith; size = m.size; spans = m.spans }; kept = λ i _ _. refl }

  base-below : (W : Way A) (b : Bool) (pc high low : ℕ) (regs : List ℕ) (st : Stack) → W.Base regs st → W.Base regs (descend b pc high low st)
  unfolding descend
  base-below W true pc high low regs st o = W.on_stretch regs st pc _ low o
  base-below W false pc high low regs st o = o

  below_next : (pc at low : ℕ) (st : Stack) → low ≤ at → below pc (suc at) low st ≡ stretch pc at low ∷ st
  unfolding descend
  below_next pc at low st h = let e : suc at - 1 ≡ at = omega arith in rw (lt-ltb low (suc at) (omega arith), e)

  below_none : (pc at : ℕ) (st : Stack) → below pc at at st ≡ st
  unfolding descend
  below_none pc at st = rw (le-ltb at at (omega arith))

  module _ (bytes : Bytes sub) (place : ℕ) (folded : Bool) (c : Class) (least : ℕ) (most : Most) (fit : BoundsFit least most) (next r : ℕ) (f : ℕ → Bool) (same : (x : ℕ) → x < 256 → f x ≡ in_class folded c x) (W : Way A) (k : Go) (regs : List ℕ) where
    -- the bytes that are taken after n rounds, and what is emitted for k of them
    abbrev far : (n at : ℕ) → ℕ
    far n at = extent sub f (allowance most n (length sub - at)) at

    abbrev emitted : (n at k : ℕ) → Trace
    emitted n at k = step ∷ strides k (stopped (is_full most (n + k)) place (at + k))

    abbrev from : ℕ → ℕ → State → Trace
    from d m t = rounds (walk sub (item place (byte_in folded c))) least most Greedy d m false t ▹ k

    -- Once the least rounds are made: the positions below this one are left, and lead to u.
    abbrev Climbs : (fuel n low : ℕ) → State → Stack → Trace → Type 0
    Climbs fuel n low s st u = least ≤ n → low ≤ s.at → length sub - s.at < fuel → Mirrors s regs → GoesOn W next r s regs k → W.Base regs st → Says p sub O W [] (fall p regs (below next s.at low st)) u
        → Says p sub O W (emitted n s.at (far n s.at)) (fall p regs (stretch next (s.at + far n s.at) low ∷ st)) (from fuel n s ++ u)

    climb : (fuel n low : ℕ) (s : State) (st : Stack) (u : Trace) → Climbs fuel n low s st u
    unfolding Run fall strides stopped leaving moved chose
    climb zero n low s st u l h z m g o e = absurd (omega arith)
    climb (suc fuel) n low s st u l h z m g o e = by (λ s' v. climb fuel (suc n) low s' st v) (is_full most n) refl (takes sub f s.at) refl
      where
        none : s.at + 0 ≡ s.at
        none = omega arith

        same-round : n + 0 ≡ n
        same-round = omega arith

        by : ((s' : State) (v : Trace) → Climbs fuel (suc n) low s' st v) → (x : Bool) → is_full most n ≡ x → (y : Bool) → takes sub f s.at ≡ y
            → Says p sub O W (emitted n s.at (far n s.at)) (fall p regs (stretch next (s.at + far n s.at) low ∷ st)) (from (suc fuel) n s ++ u)
        by i true x y w = rw (extent-full sub f most n s.at x, at_most sub bytes folded c f same place least most k fuel n s l x, none, same-round, x) (says-step p sub O W _ _ _ (g s regs (at_once r s regs m) _ u (base-below W _ next _ low regs st o) e))
        by i false x true w =
            let t = takes-inside sub f s.at w in
            let e₀ : n + suc (far (suc n) (suc s.at)) ≡ suc n + far (suc n) (suc s.at) = omega arith in
            let e₁ : s.at + suc (far (suc n) (suc s.at)) ≡ suc s.at + far (suc n) (suc s.at) = omega arith in
            let a : Later r s regs (moved (suc s.at) (chose (again Greedy) s)) regs = later-chose (again Greedy) (unfold chose in later-byte r t (mirrors-chose (again Greedy) m)) in
            let d = carries-leaving (either Greedy) W next r s regs k m g _ u (base-below W _ next _ low regs st o) e in
            rw (extent-more sub f most n s.at x w, both-hit sub bytes folded c f same place least most k fuel n s l x w, e₀, e₁, append_assoc)
            (says-step p sub O W _ _ _ (says-step p sub O W _ _ _ (i (moved (suc s.at) (chose (again Greedy) s)) (k (chose (go_on Greedy) s) ++ u) (omega arith) (omega arith) (omega arith) a.mirrors (λ s' regs' b. g s' regs' (later-still a b)) o (rw (below_next next s.at low st h) d))))
        by i false x false w = rw (extent-none sub f _ s.at w, both-miss sub bytes folded c f same place least most k fuel n s l x w, none, same-round, x) (says-step p sub O W _ _ _ (says-miss p sub O W place s.at _ _ _ (carries-leaving (either Greedy) W next r s regs k m g _ u (base-below W _ next _ low regs st o) e)))

    -- From any round on.
    abbrev Goes : (fuel n : ℕ) → State → Stack → Trace → Type 0
    Goes fuel n s st u = length sub - s.at < fuel → Mirrors s regs → GoesOn W next r s regs k → W.Base regs st → Says p sub O W [] (fall p regs st) u
        → Says p sub O W (emitted n s.at (far n s.at)) (fall p regs (ends_of (ltb (n + far n s.at) least) next (s.at + far n s.at) (s.at + (least - n)) st)) (from fuel n s ++ u)

    run-bytes : (fuel n : ℕ) (s : State) (st : Stack) (u : Trace) → Goes fuel n s st u
    unfolding strides stopped ends_of moved
    run-bytes zero n s st u z m g o e = absurd (omega arith)
    run-bytes (suc fuel) n s st u z m g o e = by (λ s'. run-bytes fuel (suc n) s' st u) (ltb n least) refl (takes sub f s.at) refl
      where
        none : s.at + 0 ≡ s.at
        none = omega arith

        same-round : n + 0 ≡ n
        same-round = omega arith

        by : ((s' : State) → Goes fuel (suc n) s' st u) → (x : Bool) → ltb n least ≡ x → (y : Bool) → takes sub f s.at ≡ y
            → Says p sub O W (emitted n s.at (far n s.at)) (fall p regs (ends_of (ltb (n + far n s.at) least) next (s.at + far n s.at) (s.at + (least - n)) st)) (from (suc fuel) n s ++ u)
        by i true x true w =
            let l = ltb-true n least x in
            let a = later-byte r (takes-inside sub f s.at w) m in
            let e₀ : n + suc (far (suc n) (suc s.at)) ≡ suc n + far (suc n) (suc s.at) = omega arith in
            let e₁ : s.at + suc (far (suc n) (suc s.at)) ≡ suc s.at + far (suc n) (suc s.at) = omega arith in
            let e₂ : s.at + (least - n) ≡ suc s.at + (least - suc n) = omega arith in
            rw (extent-more sub f most n s.at (owed-room least most n fit l) w, owed-hit sub bytes folded c f same place least most k fuel n s l w, e₀, e₁, e₂)
            (says-step p sub O W _ _ _ (says-step p sub O W _ _ _ (i (moved (suc s.at) s) (omega (arith, takes-inside sub f s.at w)) a.mirrors (λ s' regs' b. g s' regs' (later-still a b)) o e)))
        by i true x false w =
            let l = ltb-true n least x in
            rw (extent-none sub f _ s.at w, owed-miss sub bytes folded c f same place least most k fuel n s l w, none, same-round, owed-room least most n fit l, x) (says-step p sub O W _ _ _ (says-miss p sub O W place s.at _ _ _ e))
        by i false x y w =
            let l = ltb-false n least x in
            let e₀ : s.at + (least - n) ≡ s.at = omega arith in
            rw (le-ltb (n + far n s.at) least (omega arith), e₀) (climb (suc fuel) n s.at s st u l (omega arith) z m g o (rw (below_none next s.at st) e))

  carries-run : Bytes sub → (at-rule place : ℕ) (folded : Bool) (c : Class) (least : ℕ) (most : Most) (pc next r body : ℕ) → BoundsFit least most → ((x : ℕ) → x < 256 → has (drop (body + 3) p) x ≡ in_class folded c x) → get_or p (body + 2) 0 ≡ place
      → repeat_at p (pc + 2) ≡ record { least = least; most = most; greed = Greedy; register = r; body = body; next = next } → Fits p pc → decode p pc ≡ runs (pc + 2)
      → Carries (walk sub (repeat at-rule least most Greedy (item place (byte_in folded c)))) pc next r
  unfolding Run walk enough carry_out ran bytes_of
  carries-run bytes at-rule place folded c least most pc next r body fit same origin given f d W s regs k m h st u o z =
      let k₀ = extent sub (has (drop (body + 3) p)) (allowance most 0 (length sub - s.at)) s.at in
      let e₀ : 0 + k₀ ≡ k₀ = omega arith in
      let e₁ : least - 0 ≡ least = omega arith in
      let i = run-bytes bytes place folded c least most fit next r (has (drop (body + 3) p)) same W k regs (enough sub least s.at) 0 s st u (omega arith) m h o z in
      says-move p sub O W pc s.at regs f st (runs (pc + 2)) (ran p (repeat_at p (pc + 2)) (bytes_of p sub (repeat_at p (pc + 2)) 0 s.at) s.at regs st) d tt refl _ (rw (given, origin) (rw (e₀, e₁) at i))

  -- Breaks ----------------------------------------------------------------------------

  carries-break : (place pc next r : ℕ) → Fits p pc → decode p pc ≡ breaks place next → Carries (walk sub (line_break place)) pc next r
  unfolding Run carry_out broke broke_alone broken_by moved chose
  carries-break place pc next r f d W s regs k m h st u o z = rw (break-bind sub place s k) (by (takes sub is_return s.at) refl (takes sub is_feed (suc s.at)) refl (takes sub is_break s.at) refl)
    where
      -- the first branch's two bytes, and the second's one
      pair : takes sub is_return s.at ≡ true → takes sub is_feed (suc s.at) ≡ true → Later r s regs (moved (suc (suc s.at)) (chose (branch 0) s)) regs
      pair x y = record { on = omega arith; mirrors = record { inside = omega (arith, takes-inside sub is_feed (suc s.at) y); size = m.size; spans = m.spans }; kept = λ i _ _. refl }

      alone : takes sub is_break s.at ≡ true → Later r s regs (moved (suc s.at) (chose (branch 1) s)) regs
      alone y = record { on = omega arith; mirrors = record { inside = omega (arith, takes-inside sub is_break s.at y); size = m.size; spans = m.spans }; kept = λ i _ _. refl }

      by : (a : Bool) → takes sub is_return s.at ≡ a → (b : Bool) → takes sub is_feed (suc s.at) ≡ b → (c : Bool) → takes sub is_break s.at ≡ c → Says p sub O W [] (go pc s.at regs st) (broken_by a b c place s k ++ u)
      by true x true y c w = says-move p sub O W pc s.at regs f st (breaks place next) _ d tt (rw (x, y)) _
          (says-step p sub O W _ _ _ (says-step p sub O W _ _ _ (says-step p sub O W _ _ _ (says-step p sub O W _ _ _ (says-step p sub O W _ _ _ (h _ regs (pair x y) st u o z))))))
      by true x false y true w = says-move p sub O W pc s.at regs f st (breaks place next) _ d tt (rw (x, y, w)) _
          (says-step p sub O W _ _ _ (says-step p sub O W _ _ _ (says-step p sub O W _ _ _ (says-miss p sub O W place (suc s.at) _ _ _ (says-step p sub O W _ _ _ (says-step p sub O W _ _ _ (says-step p sub O W _ _ _ (h _ regs (alone w) st u o z))))))))
      by true x false y false w = says-move p sub O W pc s.at regs f st (breaks place next) _ d tt (rw (x, y, w)) _
          (says-step p sub O W _ _ _ (says-step p sub O W _ _ _ (says-step p sub O W _ _ _ (says-miss p sub O W place (suc s.at) _ _ _ (says-step p sub O W _ _ _ (says-miss p sub O W place s.at _ _ _ z))))))
      by false x b y true w = says-move p sub O W pc s.at regs f st (breaks place next) _ d tt (rw (x, w)) _
          (says-step p sub O W _ _ _ (says-step p sub O W _ _ _ (says-miss p sub O W place s.at _ _ _ (says-step p sub O W _ _ _ (says-step p sub O W _ _ _ (says-step p sub O W _ _ _ (h _ regs (alone w) st u o z)))))))
      by false x b y false w = says-move p sub O W pc s.at regs f st (breaks place next) _ d tt (rw (x, w)) _
          (says-step p sub O W _ _ _ (says-step p sub O W _ _ _ (says-miss p sub O W place s.at _ _ _ (says-step p sub O W _ _ _ (says-miss p sub O W place s.at _ _ _ z)))))

  -- Held parts and looking ahead ------------------------------------------------------

  -- what goes on from the first end goes on by k
  first-bind-done : (es : Trace) (on : State → State) (k : Go) → to_first es (λ t. done (on t)) [] ▹ k ≡ to_first es (λ t. k (on t)) []
  unfolding to_first ◌▹◌ done
  first-bind-done [] on k = refl
  first-bind-done (step ∷ es) on k = rw (first-bind-done es on k)
  first-bind-done (miss place at ∷ es) on k = rw (first-bind-done es on k)
  first-bind-done (end t ∷ es) on k = rw (append-nil (k (on t)))

  first-bind-none : (es : Trace) (s : State) (k : Go) → to_first es (λ t. []) (done s) ▹ k ≡ to_first es (λ t. []) (k s)
  unfolding to_first ◌▹◌ done
  first-bind-none [] s k = append-nil (k s)
  first-bind-none (step ∷ es) s k = rw (first-bind-none es s k)
  first-bind-none (miss place at ∷ es) s k = rw (first-bind-none es s k)
  first-bind-none (end t ∷ es) s k = refl

  entering-bind : (place : ℕ) (s : State) (b : Bool) (es : Trace) (k : Go) → (entering place s b ∷ es) ▹ k ≡ entering place s b ∷ (es ▹ k)
  unfolding entering ◌▹◌
  entering-bind place s true es k = refl
  entering-bind place s false es k = refl

  on-entering : (W : Way A) (place : ℕ) (s : State) (b : Bool) (v : Trace) → W.says (entering place s b ∷ v) ≡ entering place s b ∷ W.says v
  unfolding entering
  on-entering W place s true v = W.on_miss place s.at v
  on-entering W place s false v = W.on_step v

  shows-entering : (place : ℕ) (s : State) (b : Bool) → Shows step (entering place s b)
  unfolding entering
  shows-entering place s true = inr refl
  shows-entering place s false = refl

  -- the frames above those of the height that a register holds
  cut-to : (h : ℕ) (st st₀ : Stack) (n : ℕ) → h ≡ length st₀ → length st ≡ n + length st₀ → cut_to h st ≡ cut n st
  cut-to h st st₀ n e f = let z : length st - h ≡ n = omega arith in ap (λ (m : ℕ). cut m st) z

  -- where such a part has been entered, its registers have the height, and what else was written
  module _ (r : ℕ) (s t : State) (regs regs' : List ℕ) (h x : ℕ) (l : spans_length ≤ r) (room : r + 2 ≤ registers) (g : Mirrors s regs) (w : Later (r + 2) s (set2 regs r h x) t regs') where
    marked-height : get_or regs' r 0 ≡ h
    marked-height = w.kept r l (omega arith) ∙ first-set2 regs r h x (omega (arith, g.size))

    marked-also : get_or regs' (r + 1) 0 ≡ x
    marked-also = w.kept (r + 1) (omega arith) (omega arith) ∙ second-set2 regs r h x (omega (arith, g.size))

  -- where a part that was entered at s goes on, if its inside ended at t
  record Onward (on : State → State → State) : Type 0 where
    up : (s t : State) → s.at ≤ t.at → s.at ≤ (on s t).at
    inside : (s t : State) → s.at ≤ length sub → t.at ≤ length sub → (on s t).at ≤ length sub
    spans : (s t : State) → (on s t).spans ≡ t.spans

  carries-marked : (on : State → State → State) (a : Rule) (i : Instruction) (pc next r body close : ℕ) → Onward on → Fits p pc → Fits p close → decode p pc ≡ marks r body → decode p close ≡ i → Open i → spans_length ≤ r → r + 2 ≤ registers
      → ((s t : State) (regs : List ℕ) (st : Stack) → get_or regs (r + 1) 0 ≡ s.at → carry_out p sub i t.at regs st ≡ emitting step (go next (on s t).at regs (cut_to (get_or regs r 0) st)))
      → Carries (walk sub a) body close (r + 2)
      → (W : Way A) (s : State) (regs : List ℕ) (k : Go) → Mirrors s regs → GoesOn W next r s regs k → Run p sub O W pc s.at regs (step ∷ to_first (walk sub a s) (λ t. k (on s t)) [])
  unfolding Run Says carry_out within cut to_first done
  carries-marked on a i pc next r body close onward f f' d d' c l room carried v W s regs k g h st₀ left o z x m =
      let regs₁ = set2 regs r (length st₀) s.at in
      let way = within p W regs st₀ (λ t. k (on s t)) [] left (λ y v. W.Mind y (to_first v (λ t. k (on s t)) [] ++ left)) (record { on_step = λ y v n. W.mind_step y _ n; on_miss = λ y place at v n. W.mind_miss y place at _ n }) in
      let inner : Run p sub O way body s.at regs₁ (walk sub a s ▹ done) = v way s regs₁ done (mirrors-set2 r (length st₀) s.at l g) (λ t regs' w st u b z' y n.
      let e₀ = marked-height r s t regs regs' (length st₀) s.at l room g w in
      let e₁ = marked-also r s t regs regs' (length st₀) s.at l room g w in
      let e = cut-to (get_or regs' r 0) st st₀ b.more e₀ b.tall in
      let later : Later r s regs (on s t) regs' = record {
        on = onward.up s t w.on;
        mirrors = record { inside = onward.inside s t g.inside w.mirrors.inside; size = w.mirrors.size; spans = onward.spans s t ∙ w.mirrors.spans };
        kept = (outside regs r (length st₀) s.at w).kept;
      } in
      let after = go next (on s t).at regs' (cut_to (get_or regs' r 0) st) in
      rw W.on_step (O.moving y close t.at regs' st i (emitting step after) d' c (carried s t regs' st e₁) f' _ (O.on_step y [] after _
      (rw e (h (on s t) regs' later (cut b.more st) left b.base (rw b.back z) y (W.mind_step y _ n)))))) in
      let after = go_set r (length st₀) s.at body s.at regs st₀ in
      rw W.on_step (O.moving x pc s.at regs st₀ (marks r body) (emitting step after) d tt refl f _ (O.on_step x [] after _
      (rw (bind-end, append-nil) at (inner (saved regs r ∷ st₀) [] (record { more = 1; tall = omega arith; base = W.on_saved regs st₀ r (length st₀) s.at o; back = fall-saved p r (length st₀) s.at regs st₀ })
      (rw (fall-saved p r (length st₀) s.at regs st₀) z) x (rw (bind-end, append-nil) (W.mind_step x _ m))))))

  carries-held : (place : ℕ) (a : Rule) (pc next r body close : ℕ) → Fits p pc → Fits p close → decode p pc ≡ marks r body → decode p close ≡ keeps r next → spans_length ≤ r → r + 2 ≤ registers → Carries (walk sub a) body close (r + 2)
      → Carries (walk sub (held place a)) pc next r
  unfolding walk ◌▹◌ carry_out
  carries-held place a pc next r body close f f' d d' l room v W s regs k g h =
      rw (first-bind-done (walk sub a s) (λ t. t) k)
      (carries-marked (λ s t. t) a (keeps r next) pc next r body close (record { up = λ s t x. x; inside = λ s t x y. y; spans = λ s t. refl }) f f' d d' tt l room (λ s t regs st e. refl) v W s regs k g h)

  carries-ahead : (place : ℕ) (a : Rule) (pc next r body close : ℕ) → Fits p pc → Fits p close → decode p pc ≡ marks r body → decode p close ≡ returns r next → spans_length ≤ r → r + 2 ≤ registers → Carries (walk sub a) body close (r + 2)
      → Carries (walk sub (look place false a)) pc next r
  unfolding walk ◌▹◌ carry_out moved
  carries-ahead place a pc next r body close f f' d d' l room v W s regs k g h =
      rw (first-bind-done (walk sub a s) (λ t. moved s.at t) k)
      (carries-marked (λ s t. moved s.at t) a (returns r next) pc next r body close (record { up = λ s t x. omega arith; inside = λ s t x y. x; spans = λ s t. refl }) f f' d d' tt l room (λ s t regs st e. rw e) v W s regs k g h)

  -- What holds of what is told inside a `(?!` entered at n with a note: if there is an end to come, what is told once it is settled is right; and if there is
  -- none, what is told now.
  record Unsettled (W : Way A) (place n note : ℕ) (rest : Trace → Trace) (y : A.X) (v : Trace) : Type 0 where
    from : (q at : ℕ) → In (miss q at) v → n ≤ at
    fails : ending v ≡ true → W.Mind (A.settle note place y) (rest v)
    holds : ending v ≡ false → W.Mind y (rest v)

  abbrev rest : (other left : Trace) → Trace → Trace
  rest other left v = to_first v (λ t. []) other ++ left

  unsettled-minds : (W : Way A) (place n : ℕ) (x : A.X) (other left : Trace) → Minds A (Unsettled W place n (A.note x n) (rest other left))
  unfolding ending to_first
  unsettled-minds W place n x other left = record {
    on_step = λ y v m. record { from = λ q at i. m.from q at (inr i); fails = λ e. W.mind_step _ _ (m.fails e); holds = λ e. W.mind_step _ _ (m.holds e) };
    on_miss = λ y q at v m. record {
      from = λ q' at' i. m.from q' at' (inr i);
      fails = λ e. rw (← (A.later x place n y q at (m.from q at (inl refl)))) (W.mind_miss _ q at _ (m.fails e));
      holds = λ e. W.mind_miss _ q at _ (m.holds e);
    };
  }

  unsettled : (W : Way A) (place : ℕ) (s : State) (x : A.X) (v : Trace) (rest : Trace → Trace) → ((q at : ℕ) → In (miss q at) v → s.at ≤ at) → (b : Bool) → ending v ≡ b → W.Mind x (entering place s b ∷ rest v)
      → Unsettled W place s.at (A.note x s.at) rest x v
  unfolding entering
  unsettled W place s x v rest f true e m = record { from = f; fails = λ _. rw (A.settles x place s.at) (W.mind_miss x place s.at _ m); holds = λ e'. absurd (clash (cc)) }
  unsettled W place s x v rest f false e m = record { from = f; fails = λ e'. absurd (clash (cc)); holds = λ _. W.mind_step x _ m }

  carries-lacking : (place : ℕ) (a : Rule) (pc next r body close : ℕ) → Fits p pc → Fits p close → decode p pc ≡ forbids r body next → decode p close ≡ refutes r place → spans_length ≤ r → r + 2 ≤ registers → Carries (walk sub a) body close (r + 2)
      → Carries (walk sub (look place true a)) pc next r
  unfolding walk Run Says fall within cut to_first done ending
  carries-lacking place a pc next r body close f f' d d' l room v W s regs k g h st₀ left o z x m =
      let note = A.note x s.at in
      let regs₁ = set2 regs r (length st₀) note in
      let other = explore next s.at ∷ st₀ in
      let way = within p W regs st₀ (λ t. []) (k s) left (Unsettled W place s.at note (rest (k s) left)) (unsettled-minds W place s.at x (k s) left) in
      let m₀ = rw (entering-bind place s (ending (walk sub a s)) (to_first (walk sub a s) (λ t. []) (done s)) k, first-bind-none (walk sub a s) s k) at m in
      let inner : Run p sub O way body s.at regs₁ (walk sub a s ▹ done) = v way s regs₁ done (mirrors-set2 r (length st₀) note l g) (λ t regs' w st u c z' y n.
      let e₀ = marked-height r s t regs regs' (length st₀) note l room g w in
      let e₁ = marked-also r s t regs regs' (length st₀) note l room g w in
      let e = cut-to (get_or regs' r 0) st st₀ c.more e₀ c.tall in
      rw W.on_step (O.refuting x y close t.at s.at regs' st r place d' e₁ f' _ (rw (e, c.back) (z _ (W.mind_step _ _ (n.fails refl)))))) in
      rw (entering-bind place s (ending (walk sub a s)) (to_first (walk sub a s) (λ t. []) (done s)) k, first-bind-none (walk sub a s) s k, on-entering W place s (ending (walk sub a s)))
      (O.forbidding x pc s.at regs st₀ r body next (entering place s (ending (walk sub a s))) d (shows-entering place s (ending (walk sub a s))) f _
      (rw (bind-end, append-nil) at (inner (saved regs r ∷ other) [] (record { more = 2; tall = omega arith; base = W.on_saved regs st₀ r (length st₀) note o; back = fall-saved p r (length st₀) note regs st₀ })
      (λ y n. rw (fall-saved p r (length st₀) note regs other) (h s regs (at_once r s regs g) st₀ left o z y (n.holds refl)))
      x (rw (bind-end, append-nil) (unsettled W place s x (walk sub a s) (rest (k s) left) (λ q at i. ((tells sub a s g.inside).between q at i).0) (ending (walk sub a s)) refl m₀)))))

  -- Rules -----------------------------------------------------------------------------

  module _ (lo hi : ℕ) (within : hi ≤ length p) (bytes : Bytes sub) where
    items : (i : Item) (place pc next r : ℕ) → CompiledItem p lo hi i place pc next → Carries (walk sub (item place i)) pc next r
    items (byte_in folded c) place pc next r k =
        let o = k.node in
        carries-item place (byte_in folded c) (in_set (has (drop (pc + 3) p))) pc next r (fits p pc 0 o.is (omega (arith, o.high)) (omega (arith, o.high))) (decode-at p pc 0 o.is ∙ rw (k.goes, k.origin)) (λ s regs _. (unfold toll price in refl, agree-byte sub s regs bytes folded c _ k.set))
    items (assert a) place pc next r k =
        let o = k.node in
        carries-item place (assert a) (holding a) pc next r (fits p pc 1 o.is (omega (arith, o.high)) (omega (arith, o.high))) (decode-at p pc 1 o.is ∙ rw (k.goes, k.origin, k.which, assertion-read a)) (λ s regs _. (unfold toll price in refl, agree-assert sub s regs a))
    items (reference folded n) place pc next r k =
        let o = k.node in
        carries-item place (reference folded n) (same_as folded (slot n)) pc next r (fits p pc 11 o.is (omega (arith, o.high)) (omega (arith, o.high), rw k.span k.fits)) (decode-at p pc 11 o.is ∙ rw (k.goes, k.origin, k.span, k.folds, folded_read folded)) (λ s regs e. (unfold toll price in rw e, agree-reference sub s regs folded n e))

    -- a group that does not capture and holds one part is repeated as that part
    same-repeat : (b : Rule) (place least : ℕ) (most : Most) (g : Greed) → ◌≡◌ {A = Go} (walk sub (repeat place least most g b)) (walk sub (repeat place least most g (seq empty b)))
    unfolding walk
    same-repeat b place least most g = fun_ext (λ s. rw (fun_ext {f = λ t. done t ▹ (λ u. walk sub b u)} {g = λ t. walk sub b t} (λ t. bind_done t (λ u. walk sub b u))))

    works-run : (g : Greed) (a : Rule) (place least : ℕ) (most : Most) (pc next r body loop r' : ℕ) → RunOf g a → BoundsFit least most
        → repeat_at p (pc + 2) ≡ record { least = least; most = most; greed = g; register = r; body = body; next = next } → pc + 8 ≤ length p → get_or p (pc + 6) 0 ≡ body → get_or p pc 0 ≡ 10 → Compiled p lo hi a body loop r'
        → Carries (walk sub (repeat place least most g a)) pc next r
    unfolding Compiled
    works-run Greedy (item place' (byte_in folded s)) place least most pc next r body loop r' single fit given h e is k =
        carries-run bytes place place' folded s least most pc next r body fit k.set k.origin given (fits p pc 10 is (omega arith) (h, rw e (omega (arith, k.node.high)))) (decode-at p pc 10 is)
    works-run Greedy (seq empty b) place least most pc next r body loop r' single fit given h e is k =
        subst (λ (f : Go). Carries f pc next r) (same-repeat b place least most Greedy) (works-run Greedy b place least most pc next r body loop r' single fit given h e is (rw k.left k.right))
    works-run Greedy empty place least most pc next r body loop r' single fit given h e is k = elim single [ ]
    works-run Greedy (item place' (assert _)) place least most pc next r body loop r' single fit given h e is k = elim single [ ]
    works-run Greedy (item place' (reference _ _)) place least most pc next r body loop r' single fit given h e is k = elim single [ ]
    works-run Greedy (seq (item _ _) b) place least most pc next r body loop r' single fit given h e is k = elim single [ ]
    works-run Greedy (seq (seq _ _) b) place least most pc next r body loop r' single fit given h e is k = elim single [ ]
    works-run Greedy (seq (alt _ _ _) b) place least most pc next r body loop r' single fit given h e is k = elim single [ ]
    works-run Greedy (seq (group _ _) b) place least most pc next r body loop r' single fit given h e is k = elim single [ ]
    works-run Greedy (seq (repeat _ _ _ _ _) b) place least most pc next r body loop r' single fit given h e is k = elim single [ ]
    works-run Greedy (seq (held _ _) b) place least most pc next r body loop r' single fit given h e is k = elim single [ ]
    works-run Greedy (seq (look _ _ _) b) place least most pc next r body loop r' single fit given h e is k = elim single [ ]
    works-run Greedy (alt _ _ _) place least most pc next r body loop r' single fit given h e is k = elim single [ ]
    works-run Greedy (group _ _) place least most pc next r body loop r' single fit given h e is k = elim single [ ]
    works-run Greedy (repeat _ _ _ _ _) place least most pc next r body loop r' single fit given h e is k = elim single [ ]
    works-run Greedy (held _ _) place least most pc next r body loop r' single fit given h e is k = elim single [ ]
    works-run Greedy (look _ _ _) place least most pc next r body loop r' single fit given h e is k = elim single [ ]
    works-run Lazy a place least most pc next r body loop r' single fit given h e is k = elim single [ ]

    mutual
      unfolding Compiled walk

      pub works : (x : Rule) (pc next r : ℕ) → Compiled p lo hi x pc next r → spans_length ≤ r → Carries (walk sub x) pc next r
      works empty pc next r c l = λ W s regs k f h. rw (c, bind_done s k) (h s regs (at_once r s regs f))
      works (item place i) pc next r c l = items i place pc next r c
      works (seq a b) pc next r c l = carries-seq a b pc next r c.mid (works a pc c.mid r c.left l) (works b c.mid next r c.right l)
      works (alt bs bar b) pc next r c l =
          let o = c.node in
          carries-alt bs b bar pc c.last next r c.body (fits p c.last 6 o.is (omega (arith, o.high)) (omega (arith, o.high))) (decode-at p c.last 6 o.is ∙ rw c.goes) (works-branches bs pc c.last next r c.others l) (works b c.body next r c.inner l)
      works (group n a) pc next r c l =
          let o = c.opening in
          let d = c.node in
          carries-group n a pc next r c.body c.close
          (fits p pc 3 o.is (omega (arith, o.high)) (omega (arith, o.high), rw c.opener c.room))
          (fits p c.close 4 d.is (omega (arith, d.high)) (omega (arith, d.high), rw c.closer c.room, rw c.span c.fits))
          (decode-at p pc 3 o.is ∙ rw (c.enters, c.opener)) (decode-at p c.close 4 d.is ∙ rw (c.goes, c.closer, c.span))
          c.fits l c.room (works a c.body c.close (r + 2) c.inner (omega arith))
      works (repeat place least most g a) pc next r c l =
          let o = c.node in
          let two : pc + 1 + 1 ≡ pc + 2 = omega arith in
          let e₀ : pc + 2 + 1 ≡ pc + 3 = omega arith in
          let e₁ : pc + 2 + 2 ≡ pc + 4 = omega arith in
          let e₂ : pc + 2 + 3 ≡ pc + 5 = omega arith in
          let e₃ : pc + 2 + 4 ≡ pc + 6 = omega arith in
          let e₄ : pc + 2 + 5 ≡ pc + 7 = omega arith in
          let e₅ : pc + 1 + 1 + 3 ≡ pc + 5 = omega arith in
          let given = repeat_read p (pc + 2) least most g r c.body next c.bounds c.least (rw e₀ c.most) (rw e₁ c.greed) (rw e₂ c.register) (rw e₃ c.enters) (rw e₄ c.goes) in
          elim c.entered [
            | inl is ↦
                carries-repeat least most g a next r c.body (pc + 1) c.bounds place pc given c.room
                (fits p pc 7 (o.is ∙ is) (omega (arith, o.high)) (omega (arith, o.high), rw (e₂, c.register) c.room))
                (fits p (pc + 1) 8 c.loop (omega (arith, o.high)) (omega (arith, o.high), rw (e₅, c.register) c.room))
                (decode-at p pc 7 (o.is ∙ is)) (decode-at p (pc + 1) 8 c.loop ∙ ap loops two) l (works a c.body (pc + 1) (r + 2) c.inner (omega arith))
            | inr is ↦ works-run g a place least most pc next r c.body (pc + 1) (r + 2) is.1 c.bounds given (omega (arith, o.high)) c.enters (o.is ∙ is.0) c.inner
          ]
      works (held place a) pc next r c l = elim c [
        | inl x ↦
            let o = x.1.node in
            subst (λ (t : Rule). Carries (walk sub t) pc next r) (sym x.0)
            (carries-break place pc next r (fits p pc 12 o.is (omega (arith, o.high)) (omega (arith, o.high))) (decode-at p pc 12 o.is ∙ rw (x.1.goes, x.1.origin)))
        | inr x ↦
            let o = x.opening in
            let d = x.node in
            carries-held place a pc next r x.body x.close
            (fits p pc 13 o.is (omega (arith, o.high)) (omega (arith, o.high), rw x.opener x.room))
            (fits p x.close 14 d.is (omega (arith, d.high)) (omega (arith, d.high), rw x.closer x.room))
            (decode-at p pc 13 o.is ∙ rw (x.enters, x.opener)) (decode-at p x.close 14 d.is ∙ rw (x.goes, x.closer))
            l x.room (works a x.body x.close (r + 2) x.inner (omega arith))
      ]
      works (look place false a) pc next r c l =
          let o = c.opening in
          let d = c.node in
          carries-ahead place a pc next r c.body c.close
          (fits p pc 13 o.is (omega (arith, o.high)) (omega (arith, o.high), rw c.opener c.room))
          (fits p c.close 15 d.is (omega (arith, d.high)) (omega (arith, d.high), rw c.closer c.room))
          (decode-at p pc 13 o.is ∙ rw (c.enters, c.opener)) (decode-at p c.close 15 d.is ∙ rw (c.goes, c.closer))
          l c.room (works a c.body c.close (r + 2) c.inner (omega arith))
      works (look place true a) pc next r c l =
          let o = c.opening in
          let d = c.node in
          carries-lacking place a pc next r c.body c.close
          (fits p pc 16 o.is (omega (arith, o.high)) (omega (arith, o.high), rw c.opener c.room))
          (fits p c.close 17 d.is (omega (arith, d.high)) (omega (arith, d.high), rw c.closer c.room))
          (decode-at p pc 16 o.is ∙ rw (c.enters, c.opener, c.goes)) (decode-at p c.close 17 d.is ∙ rw (c.closer, c.origin))
          l c.room (works a c.body c.close (r + 2) c.inner (omega arith))

      works-branches : (bs : Branches) (pc other next r : ℕ) → CompiledBranches p lo hi bs pc other next r → spans_length ≤ r → CarriesBranches bs pc other next r
      works-branches (one a) pc other next r c l =
          let o = c.node in
          carries-one a pc other next r c.body (fits p pc 5 o.is (omega (arith, o.high)) (omega (arith, o.high))) (decode-at p pc 5 o.is ∙ rw (c.goes, c.fails)) (works a c.body next r c.inner l)
      works-branches (also bs bar b) pc other next r c l =
          let o = c.node in
          carries-also bs b bar pc c.last other next r c.body (fits p c.last 5 o.is (omega (arith, o.high)) (omega (arith, o.high))) (decode-at p c.last 5 o.is ∙ rw (c.goes, c.fails)) (works-branches bs pc c.last next r c.others l) (works b c.body next r c.inner l)

    -- A whole rule goes on at an end node. Over an empty stack what is watched is its walk and nothing more, if what holds of what is told goes on to hold, and is
    -- enough in the end.
    pub whole-watched : (Mind : A.X → Trace → Type 0) → Minds A Mind → ((y : A.X) (t : State) (v : Trace) → Mind y (end t ∷ v) → Mind y v) → ((y : A.X) (regs : List ℕ) → Mind y [] → O.E y [] (idle regs) [])
        → (x : Rule) (pc next : ℕ) (s : State) (regs : List ℕ) (y : A.X) → Compiled p lo hi x pc next spans_length → (next < length p) × (get_or p next 0 ≡ 9) → Mirrors s regs → Mind y (walk sub x s) → O.E y [] (go pc s.at regs []) (walk sub x s)
    unfolding Run Says fall plain
    whole-watched Mind minds on_end last x pc next s regs y c e f m =
        let way = plain A Mind minds in
        let w : Run p sub O way pc s.at regs (walk sub x s ▹ done) =
        works x pc next spans_length c (omega arith) way s regs done f (λ t regs' n. run_end p sub O way (λ v. refl) on_end next t regs' (fits p next 9 e.1 e.0 tt) (decode-at p next 9 e.1) n.mirrors.spans) in
        rw (append-nil, bind-end) at (w [] [] tt (λ y' n. last y' regs n) y (rw (append-nil, bind-end) m))

-- It emits its walk.
module _ (p : Program) (sub : List ℕ) (lo hi : ℕ) (within : hi ≤ length p) (bytes : Bytes sub) where
  pub whole : (x : Rule) (pc next : ℕ) (s : State) (regs : List ℕ) → Compiled p lo hi x pc next spans_length → (next < length p) × (get_or p next 0 ≡ 9) → Mirrors p sub (emits p sub) s regs → Emits p sub [] (go pc s.at regs []) (walk sub x s)
  unfolding emits Emits
  whole x pc next s regs c e f =
      whole-watched p sub (emits p sub) lo hi within bytes (λ _ _. Unit {0}) (record { on_step = λ _ _ _. tt; on_miss = λ _ _ _ _ _. tt }) (λ _ _ _ _. tt) (λ _ _ _. tt) x pc next s regs (unfold silent in tt) c e f tt
