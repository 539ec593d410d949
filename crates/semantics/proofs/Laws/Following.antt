-- Following a path. Where it arrives there is a derivation, made of the choices that were used; and a derivation's own choices lead along it, by its own
-- steps. Each is one induction over the rule, and within a repeat one over its rounds.
use Rattle.std.specs.Prelude.{◌≡◌, refl, ◌⊎◌, Bool, true, false, ltb, eqb, if◌then◌else◌}
use Rattle.std.proofs.Math.Path.{ap}
use Rattle.std.proofs.Common.{sym, ◌∙◌, arith, ltb-true, eqb-true, eq-eqb, ne_eqb}
use mathlib.Core.List.{List, [], ◌∷◌, ◌++◌, map, append_assoc, append-nil}
use Rattle.std.proofs.Math.Logic.{inl, inr}
use Rattle.std.proofs.Math.Option.{none}
use Prim.Native.Nat.{ℕ, zero, suc, ◌+◌, ◌-◌, ◌<◌}
use Rattle.std.proofs.Math.ListN.{length, length-append}
use Rattle.std.proofs.lemmas.List.{length-map}
use Rattle.syntax.specs.declared.Greed.{Greed}
use Rattle.syntax.specs.declared.Most.{Most}
use Rattle.syntax.specs.Tree.{Item, byte_in, assert, reference, Rule, empty, item, seq, alt, group, repeat, held, look, Branches, one, also, branch_count}
use Rattle.syntax.specs.Checkable.{unfollowed, unfollowed_in}
use Rattle.syntax.specs.Laws.Formation.{first-none}
use Rattle.semantics.specs.States.{Choice, branch, again, go_on, code, State, chose, moved, closed}
use Rattle.semantics.specs.Items.{Tried, fails, goes, refer, toll, try}
use Rattle.semantics.specs.Repeats.{Next, round, leave, either, is_full, allowed, decision}
use Rattle.semantics.specs.Derivations.{Again, On, Rounds, stop, turn, Derives, Picks}
use Rattle.semantics.specs.Proposals.{Trail, step_then, arrives, strays, Follow, ◌▸◌, steps_then, behind, choosing, either_way, settling, laps, follow, follow_in}
use Rattle.semantics.specs.CheckDemands.{round_steps, steps_along, steps_within}
use Rattle.semantics.proofs.Laws.Cases.{clash}
use Rattle.semantics.proofs.Laws.Right.{when-goes}
use Rattle.semantics.proofs.Laws.Places.{map-append}

-- an item makes no choice
moved-path : (n : ℕ) (s t : State) → goes (moved n s) ≡ goes t → t.path ≡ s.path
unfolding moved
moved-path n s t e = let z : t ≡ moved n s = cc in ap (λ (u : State). u.path) z

pub try-path : (sub : List ℕ) (i : Item) (s t : State) → try sub i s ≡ goes t → t.path ≡ s.path
unfolding try refer
try-path sub (byte_in folded c) s t e = moved-path (suc s.at) s t (when-goes _ _ t (when-goes _ _ t e).1).1
try-path sub (assert a) s t e = let z : t ≡ s = cc (when-goes _ _ t e).1 in ap (λ (u : State). u.path) z
try-path sub (reference folded n) s t e = moved-path _ s t (when-goes _ _ t (when-goes _ _ t (when-goes _ _ t e).1).1).1

-- Where a path arrives --------------------------------------------------------------

abbrev pub Leads : Trail → State → List ℕ → Type 0
Leads (step_then p) t ds = Leads p t ds
Leads (arrives u es) t ds = (u ≡ t) × (es ≡ ds)
Leads strays t ds = ⊥

pub leads-split : (p : Trail) (k : Follow) (t : State) (ds : List ℕ) → Leads (p ▸ k) t ds → (u : State) × (es : List ℕ) × Leads p u es × Leads (k u es) t ds
unfolding ◌▸◌
leads-split (step_then p) k t ds h = leads-split p k t ds h
leads-split (arrives u es) k t ds h = (u, es, (refl, refl), h)
leads-split strays k t ds h = absurd h

leads-behind : (n : ℕ) (p : Trail) (t : State) (ds : List ℕ) → Leads (steps_then n p) t ds → Leads p t ds
unfolding steps_then
leads-behind zero p t ds h = h
leads-behind (suc n) p t ds h = leads-behind n p t ds h

leads-if : (b : Bool) (p q : Trail) (t : State) (ds : List ℕ) → Leads (if b then p else q) t ds → ((b ≡ true) × Leads p t ds) ⊎ ((b ≡ false) × Leads q t ds)
leads-if true p q t ds h = inl (refl, h)
leads-if false p q t ds h = inr (refl, h)

leads-tried : (x : Tried) (cs : List ℕ) (t : State) (ds : List ℕ) → Leads (behind x cs) t ds → (x ≡ goes t) × (cs ≡ ds)
unfolding behind
leads-tried fails cs t ds h = absurd h
leads-tried (goes u) cs t ds h = (ap goes h.0, h.1)

-- from s to t the choices of cs up to ds are used, and recorded
abbrev pub Used : State → List ℕ → State → List ℕ → Type 0
Used s cs t ds = (p : List Choice) × (t.path ≡ s.path ++ p) × (cs ≡ map code p ++ ds)

used-none : (s t : State) (cs ds : List ℕ) → t.path ≡ s.path → cs ≡ ds → Used s cs t ds
used-none s t cs ds e f = ([], e ∙ sym (append-nil s.path), f)

used-one : (ch : Choice) (s t : State) (c : ℕ) (cs ds : List ℕ) → t ≡ chose ch s → c ≡ code ch → cs ≡ ds → Used s (c ∷ cs) t ds
unfolding chose
used-one ch s t c cs ds e f g = (ch ∷ [], ap (λ (u : State). u.path) e, cc)

used-then : (s t u : State) (cs ds es : List ℕ) → Used s cs t ds → Used t ds u es → Used s cs u es
used-then s t u cs ds es x y = (
  x.0 ++ y.0,
  y.1 ∙ ap (λ (p : List Choice). p ++ y.0) x.1 ∙ append_assoc s.path x.0 y.0,
  x.2 ∙ ap (λ (l : List ℕ). map code x.0 ++ l) y.2 ∙ sym (append_assoc (map code x.0) (map code y.0) es) ∙ ap (λ (l : List ℕ). l ++ es) (sym (map-append code x.0 y.0)),
)

-- a decision goes on, or begins a round
settled : (d : Next) (s : State) (cs : List ℕ) (r : Follow) (t : State) (ds : List ℕ) → Leads (settling d s cs r) t ds
    → (On d s t × Used s cs t ds) ⊎ ((u : State) × (es : List ℕ) × Again d s u × Used s cs u es × Leads (r u es) t ds)
unfolding settling choosing either_way code
settled round s cs r t ds h = inr (s, cs, refl, used-none s s cs cs refl refl, h)
settled leave s cs r t ds h = inl (sym h.0, used-none s t cs ds (ap (λ (u : State). u.path) (sym h.0)) h.1)
settled (either g) s [] r t ds h = absurd h
settled (either g) s (zero ∷ cs) r t ds h = inl (sym h.0, used-one (go_on g) s t 0 cs ds (sym h.0) refl h.1)
settled (either g) s (suc zero ∷ cs) r t ds h = inr (chose (again g) s, cs, refl, used-one (again g) s (chose (again g) s) 1 cs cs refl refl refl, h)
settled (either g) s (suc (suc c) ∷ cs) r t ds h = absurd h

module _ (body : Follow) (B : State → State → Type 0) (least : ℕ) (most : Most) (g : Greed)
    (body-made : (s : State) (cs : List ℕ) (t : State) (ds : List ℕ) → Leads (body s cs) t ds → B s t × Used s cs t ds) where
  laps-made : (f n : ℕ) (idle : Bool) (s : State) (cs : List ℕ) (t : State) (ds : List ℕ) → Leads (laps body least most g f n idle s cs) t ds → Rounds B least most g n idle s t × Used s cs t ds
  unfolding laps
  laps-made zero n idle s cs t ds h = absurd h
  laps-made (suc f) n idle s cs t ds h =
      let later : State → Follow = λ v u es. laps body least most g f (suc n) (eqb v.at u.at) u es in
      elim (settled (decision least most g n idle) s cs (λ v es. body v es ▸ later v) t ds h) [
        | inl x ↦ (stop x.0, x.1)
        | inr y ↦ (
            let z = leads-split (body y.0 y.1) (later y.0) t ds y.4 in
            let b = body-made y.0 y.1 z.0 z.1 z.2 in
            let r = laps-made f (suc n) (eqb y.0.at z.0.at) z.0 z.1 t ds z.3 in
            (turn y.2 b.0 r.0, used-then s y.0 t cs y.1 ds y.3 (used-then y.0 z.0 t y.1 z.1 ds b.1 r.1)))
      ]

module _ (sub : List ℕ) where
  mutual
    unfolding follow follow_in choosing closed code

    -- where the path arrives there is a derivation, made of the choices that were used
    pub made : (r : Rule) (s : State) (cs : List ℕ) (t : State) (ds : List ℕ) → Leads (follow sub r s cs) t ds → Derives sub r s t × Used s cs t ds
    made empty s cs t ds h = (sym h.0, used-none s t cs ds (ap (λ (u : State). u.path) (sym h.0)) h.1)
    made (item place i) s cs t ds h =
        let x = leads-tried (try sub i s) cs t ds (leads-behind (suc (toll sub i s)) (behind (try sub i s) cs) t ds h) in
        (x.0, used-none s t cs ds (try-path sub i s t x.0) x.1)
    made (seq a b) s cs t ds h =
        let z = leads-split (follow sub a s cs) (λ u es. follow sub b u es) t ds h in
        let x = made a s cs z.0 z.1 z.2 in
        let y = made b z.0 z.1 t ds z.3 in
        ((z.0, x.0, y.0), used-then s z.0 t cs z.1 ds x.1 y.1)
    made (alt bs bar b) s [] t ds h = absurd h
    made (alt bs bar b) s (c ∷ cs) t ds h =
        let n = branch_count bs in
        let u = chose (branch n) s in
        elim (leads-if (eqb c n) (step_then (follow sub b u cs)) (follow_in sub bs c s cs) t ds h) [
          | inl x ↦ (let y = made b u cs t ds x.1 in (inr y.0, used-then s u t (c ∷ cs) cs ds (used-one (branch n) s u c cs cs refl (eqb-true c n x.0) refl) y.1))
          | inr x ↦ (let y = made_in bs c s cs t ds x.1 in (inl y.0, y.1))
        ]
    made (group n a) s cs t ds h =
        let z = leads-split (follow sub a s cs) (λ u es. step_then (arrives (closed n s.at u) es)) t ds h in
        let x = made a s cs z.0 z.1 z.2 in
        let e : t ≡ closed n s.at z.0 = sym z.3.0 in
        ((z.0, x.0, e), used-then s z.0 t cs z.1 ds x.1 (used-none z.0 t z.1 ds (ap (λ (u : State). u.path) e) z.3.1))
    made (repeat place least most g a) s cs t ds h = laps-made (follow sub a) (Derives sub a) least most g (made a) (suc (least + length cs)) 0 false s cs t ds h
    made (held place a) s cs t ds h = absurd h
    made (look place negative a) s cs t ds h = absurd h

    made_in : (bs : Branches) (c : ℕ) (s : State) (cs : List ℕ) (t : State) (ds : List ℕ) → Leads (follow_in sub bs c s cs) t ds → Picks sub bs s t × Used s (c ∷ cs) t ds
    made_in (one a) c s cs t ds h =
        let u = chose (branch 0) s in
        elim (leads-if (eqb c 0) (step_then (follow sub a u cs)) strays t ds h) [
          | inl x ↦ (let y = made a u cs t ds x.1 in (y.0, used-then s u t (c ∷ cs) cs ds (used-one (branch 0) s u c cs cs refl (eqb-true c 0 x.0) refl) y.1))
          | inr x ↦ absurd x.1
        ]
    made_in (also bs bar b) c s cs t ds h =
        let n = branch_count bs in
        let u = chose (branch n) s in
        elim (leads-if (eqb c n) (step_then (follow sub b u cs)) (follow_in sub bs c s cs) t ds h) [
          | inl x ↦ (let y = made b u cs t ds x.1 in (inr y.0, used-then s u t (c ∷ cs) cs ds (used-one (branch n) s u c cs cs refl (eqb-true c n x.0) refl) y.1))
          | inr x ↦ (let y = made_in bs c s cs t ds x.1 in (inl y.0, y.1))
        ]

-- A derivation's own choices -----------------------------------------------------------

steps_on : (j : ℕ) (p : Trail) (k : Follow) → steps_then j p ▸ k ≡ steps_then j (p ▸ k)
unfolding steps_then ◌▸◌
steps_on zero p k = refl
steps_on (suc j) p k = ap step_then (steps_on j p k)

steps-add : (j k : ℕ) (p : Trail) → steps_then j (steps_then k p) ≡ steps_then (j + k) p
unfolding steps_then
steps-add zero k p = let e : k ≡ 0 + k = omega arith in ap (λ (n : ℕ). steps_then n p) e
steps-add (suc j) k p = let e : suc (j + k) ≡ suc j + k = omega arith in ap step_then (steps-add j k p) ∙ ap (λ (n : ℕ). steps_then n p) e

-- a path that arrives after j steps, and goes on for k
pub on-along : (p : Trail) (k : Follow) (t u : State) (ds es : List ℕ) (i j : ℕ) → p ≡ steps_then i (arrives t ds) → k t ds ≡ steps_then j (arrives u es) → p ▸ k ≡ steps_then (i + j) (arrives u es)
unfolding ◌▸◌
on-along p k t u ds es i j e h = ap (λ (q : Trail). q ▸ k) e ∙ steps_on i (arrives t ds) k ∙ ap (λ (q : Trail). steps_then i q) h ∙ steps-add i j (arrives u es)

-- the choices from s to t lead along, in so many steps, whatever follows them
abbrev pub Along : Follow → State → State → ℕ → Type 0
Along k s t n = (p : List Choice) × (t.path ≡ s.path ++ p) × ((ds : List ℕ) → k s (map code p ++ ds) ≡ steps_then n (arrives t ds))

-- the codes of choices, one after another
codes-then : (p q : List Choice) (ds : List ℕ) → map code (p ++ q) ++ ds ≡ map code p ++ (map code q ++ ds)
codes-then p q ds = ap (λ (l : List ℕ). l ++ ds) (map-append code p q) ∙ append_assoc (map code p) (map code q) ds

path-then : (s t u : State) (p q : List Choice) → t.path ≡ s.path ++ p → u.path ≡ t.path ++ q → u.path ≡ s.path ++ (p ++ q)
path-then s t u p q e f = f ∙ ap (λ (l : List Choice). l ++ q) e ∙ append_assoc s.path p q

along_then : (k l : Follow) (s t u : State) (i j : ℕ) → Along k s t i → Along l t u j → Along (λ v cs. k v cs ▸ l) s u (i + j)
along_then k l s t u i j x y = (
  x.0 ++ y.0,
  path-then s t u x.0 y.0 x.1 y.1,
  λ ds. ap (λ (cs : List ℕ). k s cs ▸ l) (codes-then x.0 y.0 ds) ∙ on-along (k s (map code x.0 ++ (map code y.0 ++ ds))) l t u (map code y.0 ++ ds) ds i j (x.2 (map code y.0 ++ ds)) (y.2 ds),
)

-- what a decision records when it begins a round, and when it goes on
abbrev pub begun : Next → List Choice
begun round = []
begun leave = []
begun (either g) = again g ∷ []

abbrev gone : Next → List Choice
gone round = []
gone leave = []
gone (either g) = go_on g ∷ []

begun-path : (d : Next) (s t : State) → Again d s t → t.path ≡ s.path ++ begun d
unfolding chose
begun-path round s t e = ap (λ (u : State). u.path) e ∙ sym (append-nil s.path)
begun-path leave s t e = absurd e
begun-path (either g) s t e = ap (λ (u : State). u.path) e

gone-path : (d : Next) (s t : State) → On d s t → t.path ≡ s.path ++ gone d
unfolding chose
gone-path round s t e = absurd e
gone-path leave s t e = ap (λ (u : State). u.path) e ∙ sym (append-nil s.path)
gone-path (either g) s t e = ap (λ (u : State). u.path) e

begun-settles : (d : Next) (s t : State) → Again d s t → (cs : List ℕ) (r : Follow) → settling d s (map code (begun d) ++ cs) r ≡ r t cs
unfolding settling choosing either_way code
begun-settles round s t e cs r = ap (λ (u : State). r u cs) (sym e)
begun-settles leave s t e cs r = absurd e
begun-settles (either g) s t e cs r = ap (λ (u : State). r u cs) (sym e)

gone-settles : (d : Next) (s t : State) → On d s t → (cs : List ℕ) (r : Follow) → settling d s (map code (gone d) ++ cs) r ≡ arrives t cs
unfolding settling choosing either_way code
gone-settles round s t e cs r = absurd e
gone-settles leave s t e cs r = ap (λ (u : State). arrives u cs) (sym e)
gone-settles (either g) s t e cs r = ap (λ (u : State). arrives u cs) (sym e)

-- a round is owed, or a choice is used: there are fewer decisions to come
pub begun-fewer : (least : ℕ) (most : Most) (g : Greed) (n : ℕ) (idle : Bool) (s t : State) → Again (decision least most g n idle) s t → least - suc n < (least - n) + length (begun (decision least most g n idle))
unfolding decision allowed
begun-fewer least most g n idle s t a = go (ltb n least) refl (is_full most n) idle a
  where
    go : (x : Bool) → ltb n least ≡ x → (y i : Bool) → Again (allowed x y i g) s t → least - suc n < (least - n) + length (begun (allowed x y i g))
    go true l y i a = omega (arith, ltb-true n least l)
    go false l true i a = absurd a
    go false l false true a = absurd a
    go false l false false a = omega arith

module _ (body : Follow) (B : State → State → Type 0) (least : ℕ) (most : Most) (g : Greed) (cost : (s t : State) → B s t → ℕ) (body-along : (s t : State) (b : B s t) → Along body s t (cost s t b)) where
  laps-stop : (f n : ℕ) (idle : Bool) (s t : State) → On (decision least most g n idle) s t → 0 < f → (ds : List ℕ) → laps body least most g f n idle s (map code (gone (decision least most g n idle)) ++ ds) ≡ steps_then 1 (arrives t ds)
  unfolding laps steps_then
  laps-stop zero n idle s t o h ds = absurd (omega arith)
  laps-stop (suc f) n idle s t o h ds = ap step_then (gone-settles (decision least most g n idle) s t o ds (λ v es. body v es ▸ (λ u fs. laps body least most g f (suc n) (eqb v.at u.at) u fs)))

  laps-turn : (f n : ℕ) (idle : Bool) (s t u v : State) (i j : ℕ) (p q : List Choice) → Again (decision least most g n idle) s t
      → ((ds : List ℕ) → body t (map code p ++ ds) ≡ steps_then i (arrives u ds))
      → ((k : ℕ) → (least - suc n) + length q < k → (ds : List ℕ) → laps body least most g k (suc n) (eqb t.at u.at) u (map code q ++ ds) ≡ steps_then j (arrives v ds))
      → (least - n) + length (begun (decision least most g n idle) ++ (p ++ q)) < f
      → (ds : List ℕ) → laps body least most g f n idle s (map code (begun (decision least most g n idle) ++ (p ++ q)) ++ ds) ≡ steps_then (suc (i + j)) (arrives v ds)
  unfolding laps steps_then
  laps-turn zero n idle s t u v i j p q a x y h ds = absurd (omega arith)
  laps-turn (suc f) n idle s t u v i j p q a x y h ds =
      let d = decision least most g n idle in
      let later : State → Follow = λ w z es. laps body least most g f (suc n) (eqb w.at z.at) z es in
      let r : Follow = λ w es. body w es ▸ later w in
      let cs = map code p ++ (map code q ++ ds) in
      let e : map code (begun d ++ (p ++ q)) ++ ds ≡ map code (begun d) ++ cs = codes-then (begun d) (p ++ q) ds ∙ ap (λ (l : List ℕ). map code (begun d) ++ l) (codes-then p q ds) in
      let enough : (least - suc n) + length q < f = omega (arith, begun-fewer least most g n idle s t a, length-append (begun (decision least most g n idle)) (p ++ q), length-append p q) in
      ap step_then (ap (λ (l : List ℕ). settling d s l r) e ∙ begun-settles d s t a cs r ∙ on-along (body t cs) (later t) u v (map code q ++ ds) ds i j (x (map code q ++ ds)) (y f enough ds))

  -- the bound on a repeat's decisions is never reached
  pub laps-along : {n : ℕ} {idle : Bool} {s t : State} → (d : Rounds B least most g n idle s t)
      → (p : List Choice) × (t.path ≡ s.path ++ p) × ((f : ℕ) → (least - n) + length p < f → (ds : List ℕ) → laps body least most g f n idle s (map code p ++ ds) ≡ steps_then (round_steps cost d) (arrives t ds))
  unfolding round_steps
  laps-along (stop {n = n} {idle = idle} {s = s} {t = t} o) =
      let d = decision least most g n idle in
      (gone d, gone-path d s t o, λ f h ds. laps-stop f n idle s t o (omega arith) ds)
  laps-along (turn {n = n} {idle = idle} {s = s} {t = t} {u = u} {v = v} a b r) =
      let x = body-along t u b in
      let y = laps-along r in
      let d = decision least most g n idle in (
        begun d ++ (x.0 ++ y.0),
        path-then s t v (begun d) (x.0 ++ y.0) (begun-path d s t a) (path-then t u v x.0 y.0 x.1 y.1),
        λ f h ds. laps-turn f n idle s t u v (cost t u b) (round_steps cost r) x.0 y.0 a x.2 y.2 h ds,
      )

module _ (sub : List ℕ) where
  mutual
    unfolding follow follow_in choosing behind steps_then steps_along steps_within chose closed code branch_count unfollowed unfollowed_in

    -- of a rule without l)'s forms a derivation's own choices lead along it, in its own steps
    pub along : (r : Rule) → unfollowed r ≡ none → (s t : State) (d : Derives sub r s t) → Along (follow sub r) s t (steps_along sub r s t d)
    along empty f s t d = ([], ap (λ (u : State). u.path) d ∙ sym (append-nil s.path), λ ds. ap (λ (u : State). arrives u ds) (sym d))
    along (item place i) f s t d = ([], try-path sub i s t d ∙ sym (append-nil s.path), λ ds. ap (λ (x : Tried). steps_then (suc (toll sub i s)) (behind x ds)) d)
    along (seq a b) f s t d =
        let n = first-none (unfollowed a) (unfollowed b) f in
        along_then (follow sub a) (follow sub b) s d.0 t (steps_along sub a s d.0 d.1) (steps_along sub b d.0 t d.2) (along a n.0 s d.0 d.1) (along b n.1 d.0 t d.2)
    along (alt bs bar b) f s t (inl d) =
        let x = along-in bs (first-none (unfollowed_in bs) (unfollowed b) f).0 s t d in
        (branch x.0 ∷ x.2, x.3, λ ds. rw (ne_eqb x.0 (branch_count bs) (λ e. omega (arith, x.1))) (x.4 ds))
    along (alt bs bar b) f s t (inr d) =
        let n = branch_count bs in
        let x = along b (first-none (unfollowed_in bs) (unfollowed b) f).1 (chose (branch n) s) t d in
        (branch n ∷ x.0, x.1 ∙ append_assoc s.path (branch n ∷ []) x.0, λ ds. rw (eq-eqb (branch_count bs) (branch_count bs) refl) (ap step_then (x.2 ds)))
    along (group n a) f s t d =
        let m = d.0 in
        let x = along a f s m d.1 in
        let close : Follow = λ u es. step_then (arrives (closed n s.at u) es) in (
          x.0,
          ap (λ (u : State). u.path) d.2 ∙ x.1,
          λ ds. ap step_then (on-along (follow sub a s (map code x.0 ++ ds)) close m t ds ds (steps_along sub a s m d.1) 1 (x.2 ds) (ap (λ (u : State). step_then (arrives u ds)) (sym d.2))),
        )
    along (repeat place least most g a) f s t d =
        let x = laps-along (follow sub a) (Derives sub a) least most g (steps_along sub a) (along a f) d in
        (x.0, x.1, λ ds. x.2 (suc (least + length (map code x.0 ++ ds))) (omega (arith, length-append (map code x.0) ds, length-map x.0 code)) ds)
    along (held place a) f s t d = absurd (clash (cc f))
    along (look place negative a) f s t d = absurd (clash (cc f))

    along-in : (bs : Branches) → unfollowed_in bs ≡ none → (s t : State) (d : Picks sub bs s t)
        → (i : ℕ) × (i < branch_count bs) × (p : List Choice) × (t.path ≡ s.path ++ (branch i ∷ p)) × ((ds : List ℕ) → follow_in sub bs i s (map code p ++ ds) ≡ steps_then (steps_within sub bs s t d) (arrives t ds))
    along-in (one a) f s t d =
        let x = along a f (chose (branch 0) s) t d in
        (0, omega arith, x.0, x.1 ∙ append_assoc s.path (branch 0 ∷ []) x.0, λ ds. ap step_then (x.2 ds))
    along-in (also bs bar b) f s t (inl d) =
        let x = along-in bs (first-none (unfollowed_in bs) (unfollowed b) f).0 s t d in
        (x.0, omega (arith, x.1), x.2, x.3, λ ds. rw (ne_eqb x.0 (branch_count bs) (λ e. omega (arith, x.1))) (x.4 ds))
    along-in (also bs bar b) f s t (inr d) =
        let n = branch_count bs in
        let x = along b (first-none (unfollowed_in bs) (unfollowed b) f).1 (chose (branch n) s) t d in
        (n, omega arith, x.0, x.1 ∙ append_assoc s.path (branch n ∷ []) x.0, λ ds. rw (eq-eqb (branch_count bs) (branch_count bs) refl) (ap step_then (x.2 ds)))
