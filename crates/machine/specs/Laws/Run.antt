-- What the machine emits from one node, from what it emits afterwards: one lemma for each kind of node.
--
-- Two things are to be shown of it: that it emits a walk, and, where an explanation walks, that it tells the right failures on the way. The induction over the
-- rule is one, over whoever watches (`Observer`) and keeps account of what failed (`Account`).
use Rattle.std.specs.Prelude.{◌≡◌, Bool, length, get_or, take}
use Rattle.std.proofs.Math.Path.{refl, ap, subst}
use Rattle.std.proofs.Common.{sym, ◌∙◌, inl, arith}
use mathlib.Core.List.{List, [], ◌∷◌, ◌++◌, append_assoc}
use Prim.Native.Nat.{ℕ, zero, suc, ◌+◌, ◌≤◌}
use Rattle.syntax.specs.declared.Greed.TheVariants.{Greedy, Lazy}
use Rattle.syntax.specs.Limits.{spans_length}
use Rattle.semantics.specs.States.{State}
use Rattle.semantics.specs.Items.{fails, goes}
use Rattle.semantics.specs.Repeats.{Next, round, leave, either, decision}
use Rattle.semantics.specs.Walk.{Event, step, miss, end, Trace, Go, done, paying, to_first}
use Rattle.semantics.proofs.Laws.Rounds.{Begins}
use Rattle.machine.specs.Code.{Program, Test, Instruction, tests, opens, closes, branches, last_branch, enters, loops, runs, ends, breaks, marks, keeps, returns, forbids, refutes, repeat_at, decode, Fits}
use Rattle.machine.specs.Moves.{explore, again, stretch, Stack, Now, Move, emitting, paid, set2, saved, state, shown, Shows, go, go_set, begin, cut, cut_to, bump, tested, price, fall, decided, decides, tried, carry_out, move, Emits}
use Rattle.machine.specs.Laws.Registers.{undo-set2}

-- What is told, and how a `(?!` that fails is told late: it is a failed item "tried when it is entered", but that it fails is seen only at its inner end. So it
-- keeps a note when it is entered, and is settled by that; which is the same as if it had been told at once, since no item inside is tried before it.
pub record Account : Type 1 where
  pub X : Type 0
  pub told : X → (place at : ℕ) → X
  pub note : X → (at : ℕ) → ℕ
  pub settle : (note place : ℕ) → X → X
  pub settles : (x : X) (place n : ℕ) → settle (note x n) place x ≡ told x place n
  pub later : (x : X) (place n : ℕ) (y : X) (q at : ℕ) → n ≤ at → told (settle (note x n) place y) q at ≡ settle (note x n) place (told y q at)

-- nothing is told
unfoldable pub silent : Account
silent = record { X = Unit {0}; told = λ _ _ _. tt; note = λ _ at. at; settle = λ _ _ _. tt; settles = λ _ _ _. refl; later = λ _ _ _ _ _ _ _. refl }

-- A way to read the walk of a part of the rule: `says` turns that walk's trace, with what is left to fall back to, into what the machine
-- emits; `Base` is what holds of the registers and the stack meanwhile, and `Mind` of what is told by then and the trace that is left. For a whole rule the
-- first two are trivial; a part whose other ways are cut off once it has ended has its own (`within`).
pub record Way (A : Account) : Type 1 where
  pub says : Trace → Trace
  pub Base : List ℕ → Stack → Type 0
  pub Mind : A.X → Trace → Type 0
  pub on_step : (v : Trace) → says (step ∷ v) ≡ step ∷ says v
  pub on_miss : (place at : ℕ) (v : Trace) → says (miss place at ∷ v) ≡ miss place at ∷ says v
  pub mind_step : (x : A.X) (v : Trace) → Mind x (step ∷ v) → Mind x v
  pub mind_miss : (x : A.X) (place at : ℕ) (v : Trace) → Mind x (miss place at ∷ v) → Mind (A.told x place at) v
  pub on_saved : (regs : List ℕ) (st : Stack) (i a b : ℕ) → Base regs st → Base (set2 regs i a b) (saved regs i ∷ st)
  pub on_explore : (regs : List ℕ) (st : Stack) (pc at : ℕ) → Base regs st → Base regs (explore pc at ∷ st)
  pub on_again : (regs : List ℕ) (st : Stack) (q n at : ℕ) → Base regs st → Base regs (again q n at ∷ st)
  pub on_stretch : (regs : List ℕ) (st : Stack) (pc high low : ℕ) → Base regs st → Base regs (stretch pc high low ∷ st)

-- what holds of what is told goes on to hold
pub record Minds (A : Account) (Mind : A.X → Trace → Type 0) : Type 0 where
  pub on_step : (x : A.X) (v : Trace) → Mind x (step ∷ v) → Mind x v
  pub on_miss : (x : A.X) (place at : ℕ) (v : Trace) → Mind x (miss place at ∷ v) → Mind (A.told x place at) v

-- over a whole rule
unfoldable pub plain : (A : Account) (Mind : A.X → Trace → Type 0) → Minds A Mind → Way A
plain A Mind m = record {
  says = λ v. v;
  Base = λ _ _. Unit {0};
  Mind = Mind;
  on_step = λ _. refl;
  on_miss = λ _ _ _. refl;
  mind_step = m.on_step;
  mind_miss = m.on_miss;
  on_saved = λ _ _ _ _ _ _. tt;
  on_explore = λ _ _ _ _ _. tt;
  on_again = λ _ _ _ _ _ _. tt;
  on_stretch = λ _ _ _ _ _ _. tt;
}

-- a decision's two ways on, a round and going on, in the order in which they are tried
unfoldable pub join : Next → Trace → Trace → Trace
join round t u = t
join leave t u = u
join (either Greedy) t u = t ++ u
join (either Lazy) t u = u ++ t

-- what is saved is put back
pub fall-saved : (p : Program) (i a b : ℕ) (regs : List ℕ) (st : Stack) → fall p (set2 regs i a b) (saved regs i ∷ st) ≡ fall p regs st
unfolding fall
fall-saved p i a b regs st = ap (λ (x : List ℕ). fall p x st) (undo-set2 regs i a b)

-- A held part or looking ahead, entered in the way W with the registers regs₀ over the stack st₀. Without the choices made since, the registers and the
-- stack are those of W, and falling back leads to where it led when the part was entered.
pub record Above (p : Program) {A : Account} (W : Way A) (regs₀ : List ℕ) (st₀ : Stack) (regs : List ℕ) (st : Stack) : Type 0 where
  pub more : ℕ
  pub tall : length st ≡ more + length st₀
  pub base : W.Base regs (cut more st)
  pub back : fall p regs (cut more st) ≡ fall p regs₀ st₀

-- The walk of its inside is read up to the first end: on from there by k, and by `other` if there is none; then what is left outside.
unfoldable pub within : (p : Program) {A : Account} (W : Way A) (regs₀ : List ℕ) (st₀ : Stack) (k : Go) (other left : Trace) (Mind : A.X → Trace → Type 0) → Minds A Mind → Way A
unfolding cut to_first
within p W regs₀ st₀ k other left Mind m = record {
  says = λ v. W.says (to_first v k other ++ left);
  Base = Above p W regs₀ st₀;
  Mind = Mind;
  on_step = λ v. W.on_step (to_first v k other ++ left);
  on_miss = λ place at v. W.on_miss place at (to_first v k other ++ left);
  mind_step = m.on_step;
  mind_miss = m.on_miss;
  on_saved = λ regs st i a b o. record { more = suc o.more; tall = omega (arith, o.tall); base = W.on_saved regs (cut o.more st) i a b o.base; back = fall-saved p i a b regs (cut o.more st) ∙ o.back };
  on_explore = λ regs st pc at o. record { more = suc o.more; tall = omega (arith, o.tall); base = o.base; back = o.back };
  on_again = λ regs st q n at o. record { more = suc o.more; tall = omega (arith, o.tall); base = o.base; back = o.back };
  on_stretch = λ regs st pc high low o. record { more = suc o.more; tall = omega (arith, o.tall); base = o.base; back = o.back };
}

-- Watching ----------------------------------------------------------------------

-- the instructions whose events tell all there is to tell: those of `(?!` do not
abbrev pub Open : Instruction → Type 0
Open (tests x place next) = Unit {0}
Open (opens i body) = Unit {0}
Open (closes i slot next) = Unit {0}
Open (branches body other) = Unit {0}
Open (last_branch body) = Unit {0}
Open (enters q) = Unit {0}
Open (loops q) = Unit {0}
Open (runs q) = Unit {0}
Open ends = Unit {0}
Open (breaks place next) = Unit {0}
Open (marks i body) = Unit {0}
Open (keeps i next) = Unit {0}
Open (returns i next) = Unit {0}
Open (forbids i body next) = ⊥
Open (refutes i place) = ⊥

-- What is watched of the machine: `E x os now t`, where x is told by now, the events os are pending, and t is to come.
pub record Observer (p : Program) (sub : List ℕ) (A : Account) : Type 1 where
  pub E : A.X → Trace → Now → Trace → Type 0
  pub on_step : (x : A.X) (os : Trace) (now : Now) (t : Trace) → E x os now t → E x (step ∷ os) now (step ∷ t)
  pub on_miss : (x : A.X) (place at : ℕ) (os : Trace) (now : Now) (t : Trace) → E (A.told x place at) os now t → E x (miss place at ∷ os) now (miss place at ∷ t)
  pub on_end : (x : A.X) (s : State) (os : Trace) (now : Now) (t : Trace) → E x os now t → E x (shown (end s) ∷ os) now (end s ∷ t)
  pub moving : (x : A.X) (pc at : ℕ) (regs : List ℕ) (st : Stack) (i : Instruction) (m : Move) → decode p pc ≡ i → Open i → carry_out p sub i at regs st ≡ m → Fits p pc
      → (t : Trace) → E x (m.first ∷ m.more) m.after t → E x [] (go pc at regs st) t
  pub forbidding : (x : A.X) (pc at : ℕ) (regs : List ℕ) (st : Stack) (i body next : ℕ) (e : Event) → decode p pc ≡ forbids i body next → Shows step e → Fits p pc
      → (t : Trace) → E x [] (go_set i (length st) (A.note x at) body at regs (explore next at ∷ st)) t → E x [] (go pc at regs st) (e ∷ t)
  pub refuting : (x y : A.X) (pc at n : ℕ) (regs : List ℕ) (st : Stack) (i place : ℕ) → decode p pc ≡ refutes i place → get_or regs (i + 1) 0 ≡ A.note x n → Fits p pc
      → (t : Trace) → E (A.settle (A.note x n) place y) [] (fall p regs (cut_to (get_or regs i 0) st)) t → E y [] (go pc at regs st) (step ∷ t)

module _ (p : Program) (sub : List ℕ) where
  -- where what a move emits is pending
  pub emit-pending : (pc at : ℕ) (regs : List ℕ) (st : Stack) (i : Instruction) (m : Move) → decode p pc ≡ i → carry_out p sub i at regs st ≡ m → Fits p pc → (t : Trace) → Emits p sub (m.first ∷ m.more) m.after t
      → Emits p sub [] (go pc at regs st) t
  unfolding Emits move
  emit-pending pc at regs st i m d x f [] h = absurd h
  emit-pending pc at regs st i m d x f (e ∷ t) h =
      let y : move p sub (record { pc = pc; at = at; regs = regs; stack = st }) ≡ m = ap (λ (j : Instruction). carry_out p sub j at regs st) d ∙ x in
      (f, subst (λ (z : Move). Shows z.first e) (sym y) h.0, subst (λ (z : Move). Emits p sub z.more z.after t) (sym y) h.1)

  -- watching that it emits a trace: what is told is of no account
  unfoldable pub emits : Observer p sub silent
  unfolding silent carry_out Emits
  emits = record {
    E = λ x os now t. Emits p sub os now t;
    on_step = λ x os now t h. (refl, h);
    on_miss = λ x place at os now t h. (inl refl, h);
    on_end = λ x s os now t h. (refl, h);
    moving = λ x pc at regs st i m d c e f t h. emit-pending pc at regs st i m d e f t h;
    forbidding = λ x pc at regs st i body next e d w f t h. emit-pending pc at regs st (forbids i body next) _ d refl f (e ∷ t) (w, h);
    refuting = λ x y pc at n regs st i place d e f t h. emit-pending pc at regs st (refutes i place) _ d refl f (step ∷ t) (refl, h);
  }

-- steps before a trace, and then another
pub paying-append : (n : ℕ) (t u : Trace) → paying n t ++ u ≡ paying n (t ++ u)
unfolding paying
paying-append zero t u = refl
paying-append (suc n) t u = ap (λ (v : Trace). step ∷ v) (paying-append n t u)

module _ (p : Program) (sub : List ℕ) {A : Account} (O : Observer p sub A) (W : Way A) where
  -- with the events os pending, what is watched is the trace v, read in the way W
  unfoldable pub Says : Trace → Now → Trace → Type 0
  Says os now v = (x : A.X) → W.Mind x v → O.E x os now (W.says v)

  pub says-step : (os : Trace) (now : Now) (v : Trace) → Says os now v → Says (step ∷ os) now (step ∷ v)
  unfolding Says
  says-step os now v h x m = rw (W.on_step v) (O.on_step x os now (W.says v) (h x (W.mind_step x v m)))

  pub says-miss : (place at : ℕ) (os : Trace) (now : Now) (v : Trace) → Says os now v → Says (miss place at ∷ os) now (miss place at ∷ v)
  unfolding Says
  says-miss place at os now v h x m = rw (W.on_miss place at v) (O.on_miss x place at os now (W.says v) (h (A.told x place at) (W.mind_miss x place at v m)))

  says-paid : (n : ℕ) (m : Move) (v : Trace) → Says (m.first ∷ m.more) m.after v → Says ((paid n m).first ∷ (paid n m).more) (paid n m).after (paying n v)
  unfolding paid paying
  says-paid zero m v h = h
  says-paid (suc n) m v h = says-step ((paid n m).first ∷ (paid n m).more) (paid n m).after (paying n v) (says-paid n m v h)

  -- From pc what is watched are the events t and then, over any stack, those of falling back.
  unfoldable pub Run : (pc at : ℕ) → List ℕ → Trace → Type 0
  Run pc at regs t = (st : Stack) (u : Trace) → W.Base regs st → Says [] (fall p regs st) u → Says [] (go pc at regs st) (t ++ u)

  module _ (pc at : ℕ) (regs : List ℕ) (f : Fits p pc) where
    -- a move whose events are v
    pub says-move : (st : Stack) (i : Instruction) (m : Move) → decode p pc ≡ i → Open i → carry_out p sub i at regs st ≡ m → (v : Trace) → Says (m.first ∷ m.more) m.after v → Says [] (go pc at regs st) v
    unfolding Says
    says-move st i m d c e v h x n = O.moving x pc at regs st i m d c e f (W.says v) (h x n)

    pub says_plain : (st : Stack) (i : Instruction) (after : Now) → decode p pc ≡ i → Open i → carry_out p sub i at regs st ≡ emitting step after → (v : Trace) → Says [] after v → Says [] (go pc at regs st) (step ∷ v)
    says_plain st i after d c e v h = says-move st i (emitting step after) d c e (step ∷ v) (says-step [] after v h)

    pub run-miss : (y : Test) (place next : ℕ) → decode p pc ≡ tests y place next → tested sub y (state at regs) ≡ fails → Run pc at regs (paying (price sub y (state at regs)) (miss place at ∷ []))
    unfolding Run carry_out tried
    run-miss y place next d e st u o z =
        let n = price sub y (state at regs) in
        let m = emitting (miss place at) (fall p regs st) in
        rw (paying-append n (miss place at ∷ []) u) (says-move st (tests y place next) (paid n m) d tt (rw e) _ (says-paid n m (miss place at ∷ u) (says-miss place at [] (fall p regs st) u z)))

    pub run-hit : (y : Test) (place next : ℕ) (s : State) (t : Trace) → decode p pc ≡ tests y place next → tested sub y (state at regs) ≡ goes s → Run next s.at regs t
        → Run pc at regs (paying (price sub y (state at regs)) (step ∷ t))
    unfolding Run carry_out tried
    run-hit y place next s t d e h st u o z =
        let n = price sub y (state at regs) in
        let m = emitting step (go next s.at regs st) in
        rw (paying-append n (step ∷ t) u) (says-move st (tests y place next) (paid n m) d tt (rw e) _ (says-paid n m (step ∷ (t ++ u)) (says-step [] (go next s.at regs st) (t ++ u) (h st u o z))))

    pub run-open : (i body : ℕ) (t : Trace) → decode p pc ≡ opens i body → Run body at (set2 regs i at 0) t → Run pc at regs (step ∷ t)
    unfolding Run carry_out
    run-open i body t d h st u o z = says_plain st _ _ d tt refl _ (h (saved regs i ∷ st) u (W.on_saved regs st i at 0 o) (rw fall-saved z))

    pub run-close : (i slot next : ℕ) (t : Trace) → decode p pc ≡ closes i slot next → Run next at (set2 regs slot (get_or regs i 0) at) t → Run pc at regs (step ∷ t)
    unfolding Run carry_out
    run-close i slot next t d h st u o z = says_plain st _ _ d tt refl _ (h (saved regs slot ∷ st) u (W.on_saved regs st _ _ _ o) (rw fall-saved z))

    pub run-branch : (body other : ℕ) (t t' : Trace) → decode p pc ≡ branches body other → Run body at regs t → Run other at regs t' → Run pc at regs (step ∷ (t ++ t'))
    unfolding Run carry_out fall
    run-branch body other t t' d h h' st u o z = rw append_assoc (says_plain st _ _ d tt refl _ (h (explore other at ∷ st) _ (W.on_explore regs st other at o) (h' st u o z)))

    pub run-last : (body : ℕ) (t : Trace) → decode p pc ≡ last_branch body → Run body at regs t → Run pc at regs (step ∷ t)
    unfolding Run carry_out
    run-last body t d h st u o z = says_plain st _ _ d tt refl _ (h st u o z)

  -- a repeat's decision
  run-decided : (e : Next) (q n at : ℕ) (regs : List ℕ) (t t' : Trace)
      → (Begins e → Run (repeat_at p q).body at (set2 regs (repeat_at p q).register (bump n) at) t) → Run (repeat_at p q).next at regs t'
      → (st : Stack) (u : Trace) → W.Base regs st → Says [] (fall p regs st) u → Says [] (decided p e q n at regs st) (join e t t' ++ u)
  unfolding Run decided join begin fall
  run-decided round q n at regs t t' h h' st u o z = h tt (saved regs (repeat_at p q).register ∷ st) u (W.on_saved regs st _ _ _ o) (rw fall-saved z)
  run-decided leave q n at regs t t' h h' st u o z = h' st u o z
  run-decided (either Greedy) q n at regs t t' h h' st u o z =
      rw append_assoc (h tt (saved regs (repeat_at p q).register ∷ explore (repeat_at p q).next at ∷ st) _ (W.on_saved regs _ _ _ _ (W.on_explore regs st _ _ o)) (rw fall-saved (h' st u o z)))
  run-decided (either Lazy) q n at regs t t' h h' st u o z =
      rw append_assoc (h' (again q (bump n) at ∷ st) _ (W.on_again regs st _ _ _ o) (h tt (saved regs (repeat_at p q).register ∷ st) u (W.on_saved regs st _ _ _ o) (rw fall-saved z)))

  -- at a node that decides, as a repeat is entered or after a round
  pub run-decides : (i : Instruction) (q pc n : ℕ) (still : Bool) (at : ℕ) (regs : List ℕ) (t t' : Trace) → Fits p pc → decode p pc ≡ i → Open i
      → ((st : Stack) → carry_out p sub i at regs st ≡ emitting step (decides p q n still at regs st))
      → (Begins (decision (repeat_at p q).least (repeat_at p q).most (repeat_at p q).greed n still) → Run (repeat_at p q).body at (set2 regs (repeat_at p q).register (bump n) at) t) → Run (repeat_at p q).next at regs t'
      → Run pc at regs (step ∷ join (decision (repeat_at p q).least (repeat_at p q).most (repeat_at p q).greed n still) t t')
  unfolding Run decides
  run-decides i q pc n still at regs t t' f d c e h h' st u o z = says_plain pc at regs f st i _ d c (e st) _ (run-decided _ q n at regs t t' h h' st u o z)

  -- the end of the whole rule, where it is read as it is
  pub run_end : ((v : Trace) → W.says v ≡ v) → ((x : A.X) (s : State) (v : Trace) → W.Mind x (end s ∷ v) → W.Mind x v) → (pc : ℕ) (s : State) (regs : List ℕ) → Fits p pc → decode p pc ≡ ends → s.spans ≡ take spans_length regs → Run pc s.at regs (done s)
  unfolding Run Says carry_out done
  run_end same onward pc s regs f d e st u o z x m =
      rw (same (end s ∷ u)) (O.moving x pc s.at regs st ends (emitting (shown (end s)) (fall p regs st)) d tt (rw e) f _ (O.on_end x s [] (fall p regs st) u (rw (same u) at (z x (onward x s u m)))))
