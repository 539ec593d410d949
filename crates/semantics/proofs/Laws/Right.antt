-- What it is for a trace to be right, and that each way of putting traces together keeps it.
use Rattle.std.proofs.Math.Path.{◌≡◌, refl, ap, sym}
use Rattle.std.proofs.Common.{◌∙◌, append_assoc, append-nil, arith, ltb-true, leb-true}
use Rattle.std.specs.Prelude.{List, [], ◌∷◌, ◌++◌, ◌⊎◌, Bool, length, ltb, leb}
use Rattle.std.proofs.Math.Logic.{inl, inr}
use Rattle.std.proofs.Math.Bool.{true, false}
use Prim.Native.Nat.{ℕ, zero, suc, ◌≤◌}
use Rattle.syntax.specs.declared.Greed.TheVariants.{Greedy, Lazy}
use Rattle.syntax.specs.Tree.{Item, byte_in, assert, reference}
use Rattle.semantics.specs.States.{Choice, again, go_on, Sooner, round_first, go_on_first, State, chose, moved}
use Rattle.semantics.specs.Items.{Tried, fails, goes, when, refer, try}
use Rattle.semantics.specs.Repeats.{Next, round, leave, either}
use Rattle.semantics.specs.Derivations.{Again, On, First}
use Rattle.semantics.specs.Walk.{step, Trace, Go, ◌▹◌, done, tried, paying, decide, to_first, ending, entering}
use Rattle.semantics.proofs.Laws.Traces.{Ends, Ordered, Extends, before-extends, fork, ends-split, ends-left, ends-right, ordered-append, bind-split, bind-join, bind-ordered, first-split, first-join, first-ordered, first-none, first-other, other-first, ending-true, ending-false}

-- Reach ------------------------------------------------------------------

-- u lies on from s, within N bytes, with the choices of s and maybe more
pub record Reach (N : ℕ) (s u : State) : Type 0 where
  pub up : s.at ≤ u.at
  pub inside : u.at ≤ N
  pub path : Extends s.path u.path

reach-trans : {N : ℕ} {s t u : State} → Reach N s t → Reach N t u → Reach N s u
reach-trans {s = s} x y = record { up = omega arith; inside = y.inside; path = (x.path.0 ++ y.path.0, y.path.1 ∙ ap (λ (p : List Choice). p ++ y.path.0) x.path.1 ∙ append_assoc s.path x.path.0 y.path.0) }

-- no byte, no choice
pub reach-still : {N : ℕ} {s u : State} → s.at ≤ N → s.at ≡ u.at → u.path ≡ s.path → Reach N s u
reach-still {s = s} l e f = record { up = omega arith; inside = omega arith; path = ([], f ∙ sym (append-nil s.path)) }

pub reach-self : (N : ℕ) (s : State) → s.at ≤ N → Reach N s s
reach-self N s l = reach-still l refl refl

reach-chose : (N : ℕ) (c : Choice) (s : State) → s.at ≤ N → Reach N s (chose c s)
unfolding chose
reach-chose N c s l = record { up = omega arith; inside = l; path = (c ∷ [], refl) }

-- Right traces -----------------------------------------------------------

-- a trace from s is right for D: its ends are the states of D, in the order of their choices
pub record Right (N : ℕ) (s : State) (es : Trace) (D : State → Type 0) : Type 0 where
  pub sound : (u : State) → Ends es u → D u
  pub complete : (u : State) → D u → Ends es u
  pub ordered : Ordered es
  pub reach : (u : State) → D u → Reach N s u

-- each state of D comes after a choice at s that has the property P
abbrev pub Makes : State → (Choice → Type 0) → (State → Type 0) → Type 0
Makes s P D = (u : State) → D u → (c : Choice) × P c × Extends (s.path ++ (c ∷ [])) u.path

module _ {N : ℕ} {s : State} where
  pub right-step : {es : Trace} {D : State → Type 0} → Right N s es D → Right N s (step ∷ es) D
  right-step r = record { sound = r.sound; complete = r.complete; ordered = r.ordered; reach = r.reach }

  pub right-as : {es : Trace} {D E : State → Type 0} → ((u : State) → D u → E u) → ((u : State) → E u → D u) → Right N s es D → Right N s es E
  right-as f g r = record { sound = λ u h. f u (r.sound u h); complete = λ u h. r.complete u (g u h); ordered = r.ordered; reach = λ u h. r.reach u (g u h) }

  right-from : {t : State} {es : Trace} {D : State → Type 0} → Reach N s t → Right N t es D → Right N s es D
  right-from x r = record { sound = r.sound; complete = r.complete; ordered = r.ordered; reach = λ u h. reach-trans x (r.reach u h) }

  pub right-done : (t : State) → Reach N s t → Right N s (done t) (λ u. u ≡ t)
  unfolding done
  right-done t x = record { sound = λ u h. elim h [ inl e ↦ sym e | inr z ↦ absurd z ]; complete = λ u e. inl (sym e); ordered = (λ u z. absurd z, tt); reach = λ u e. rw e x }

  pub right-bind : {es : Trace} {k : Go} {D : State → Type 0} {E : State → State → Type 0} → Right N s es D → ((t : State) → D t → Right N t (k t) (E t)) → Right N s (es ▹ k) (λ u. (t : State) × D t × E t u)
  right-bind {es} {k} x y = record {
    sound = λ u h. let z = bind-split es k u h in let d = x.sound z.0 z.1 in (z.0, d, (y z.0 d).sound u z.2);
    complete = λ u d. bind-join es k d.0 u (x.complete d.0 d.1) ((y d.0 d.1).complete u d.2);
    ordered = bind-ordered es k x.ordered (λ t e. (y t (x.sound t e)).ordered) (λ t u e f. let r = y t (x.sound t e) in (r.reach u (r.sound u f)).path);
    reach = λ u d. reach-trans (x.reach d.0 d.1) ((y d.0 d.1).reach u d.2);
  }

  -- one trace after another, where the choices of the first are the sooner ones
  pub right-append : {a b : Trace} {D E : State → Type 0} {P Q : Choice → Type 0} → Right N s a D → Makes s P D → Right N s b E → Makes s Q E → ((c d : Choice) → P c → Q d → Sooner c d)
      → Right N s (a ++ b) (λ u. D u ⊎ E u)
  right-append {a} {b} x p y q f = record {
    sound = λ u e. elim (ends-split a b u e) [ inl h ↦ inl (x.sound u h) | inr h ↦ inr (y.sound u h) ];
    complete = λ u d. elim d [ inl h ↦ ends-left a b u (x.complete u h) | inr h ↦ ends-right a b u (y.complete u h) ];
    ordered = ordered-append a b x.ordered y.ordered (λ t u e h.
        let c = p t (x.sound t e) in
        let d = q u (y.sound u h) in
        rw (c.2.1, d.2.1) (before-extends c.2.0 d.2.0 (fork s.path c.0 d.0 (f c.0 d.0 c.1 d.1))));
    reach = λ u d. elim d [ inl h ↦ x.reach u h | inr h ↦ y.reach u h ];
  }

  -- a held part, or looking ahead: the first end alone, and on from there
  pub right-first : {es : Trace} {k : Go} {D : State → Type 0} {E : State → State → Type 0} → Right N s es D → ((t : State) → D t → Right N s (k t) (E t)) → Right N s (step ∷ to_first es k []) (λ u. (t : State) × First D t × E t u)
  right-first {es} {k} x y = record {
    sound = λ u h. let z = first-split es k u x.ordered h in let d = x.sound z.0 z.1 in (z.0, (d, λ v e. z.2 v (x.complete v e)), (y z.0 d).sound u z.3);
    complete = λ u d. first-join es k d.0 u x.ordered (x.complete d.0 d.1.0) (λ v e. d.1.1 v (x.sound v e)) ((y d.0 d.1.0).complete u d.2);
    ordered = first-ordered es k [] (λ t e. (y t (x.sound t e)).ordered) tt;
    reach = λ u d. (y d.0 d.1.0).reach u d.2;
  }

  -- negative looking ahead, whose inside has an end or not
  pub right-lacking : (place : ℕ) {es : Trace} {D : State → Type 0} → s.at ≤ N → Right N s es D → (b : Bool) → ending es ≡ b → Right N s (entering place s b ∷ to_first es (λ t. []) (done s)) (λ u. ((m : State) → ¬ D m) × (u ≡ s))
  unfolding entering done
  right-lacking place {es} l x true e = let t = ending-true es e in record {
    sound = λ u h. absurd (first-none es _ u e h);
    complete = λ u d. absurd (d.0 t.0 (x.sound t.0 t.1));
    ordered = first-ordered es _ _ (λ t e. tt) (λ u z. absurd z, tt);
    reach = λ u d. rw d.1 (reach-self N s l);
  }
  right-lacking place {es} l x false e = record {
    sound = λ u h. (λ m d. ending-false es m e (x.complete m d), elim (first-other es _ _ u e h) [ inl q ↦ sym q | inr z ↦ absurd z ]);
    complete = λ u d. other-first es _ _ u e (inl (sym d.1));
    ordered = first-ordered es _ _ (λ t e. tt) (λ u z. absurd z, tt);
    reach = λ u d. rw d.1 (reach-self N s l);
  }

  -- steps before a trace reach no end
  pub right-paying : (n : ℕ) {es : Trace} {D : State → Type 0} → Right N s es D → Right N s (paying n es) D
  unfolding paying
  right-paying zero r = r
  right-paying (suc n) r = right-step (right-paying n r)

  -- an item tried
  pub right-tried : (place : ℕ) (x : Tried) → ((t : State) → x ≡ goes t → Reach N s t) → Right N s (tried place s x) (λ t. x ≡ goes t)
  unfolding tried done
  right-tried place fails h = record { sound = λ u e. absurd e; complete = λ u e. (let z : ◌≡◌ {A = ℕ} 0 1 = cc in absurd (omega arith)); ordered = tt; reach = h }
  right-tried place (goes t) h = record { sound = λ u e. elim e [ inl q ↦ ap goes q | inr z ↦ absurd z ]; complete = λ u e. inl (cc); ordered = (λ u z. absurd z, tt); reach = h }

-- what is right after a choice at s is right at s, and makes that choice
module _ {N : ℕ} (s : State) (c : Choice) {es : Trace} {D : State → Type 0} where
  pub right-chose : s.at ≤ N → Right N (chose c s) es D → Right N s es D
  right-chose l r = right-from (reach-chose N c s l) r

  pub makes-chose : Right N (chose c s) es D → Makes s (λ d. d ≡ c) D
  unfolding chose
  makes-chose r u d = (c, refl, (r.reach u d).path)

-- Items --------------------------------------------------------------------

pub when-goes : (b : Bool) (x : Tried) (t : State) → when b x ≡ goes t → (b ≡ true) × (x ≡ goes t)
unfolding when
when-goes true x t e = (refl, e)
when-goes false x t e = let z : ◌≡◌ {A = ℕ} 0 1 = cc in absurd (omega arith)

moves : (N n : ℕ) (s t : State) → s.at ≤ n → n ≤ N → goes (moved n s) ≡ goes t → Reach N s t
unfolding moved
moves N n s t l h e = let z : t ≡ moved n s = cc in rw z (record { up = l; inside = h; path = ([], sym (append-nil s.path)) })

pub try-reach : (sub : List ℕ) (i : Item) (s t : State) → s.at ≤ length sub → try sub i s ≡ goes t → Reach (length sub) s t
unfolding try refer moved
try-reach sub (byte_in folded c) s t h e =
    let x = when-goes (ltb s.at (length sub)) _ t e in
    let y = when-goes _ _ t x.1 in
    moves _ (suc s.at) s t (omega arith) (ltb-true s.at (length sub) x.0) y.1
try-reach sub (assert a) s t h e = moves _ s.at s t (omega arith) h (when-goes _ _ t e).1
try-reach sub (reference folded n) s t h e =
    let x = when-goes _ _ t e in
    let y = when-goes (leb _ (length sub)) _ t x.1 in
    let z = when-goes _ _ t y.1 in
    moves _ _ s t (omega arith) (leb-true _ (length sub) y.0) z.1

-- Decisions ----------------------------------------------------------------

pub again-reach : (N : ℕ) (d : Next) (s t : State) → s.at ≤ N → Again d s t → Reach N s t
again-reach N round s t l e = rw e (reach-self N s l)
again-reach N leave s t l e = absurd e
again-reach N (either g) s t l e = rw e (reach-chose N (again g) s l)

pub right-decide : {N : ℕ} (d : Next) (s : State) (r : Go) {E : State → State → Type 0} → s.at ≤ N → ((t : State) → Again d s t → Right N t (r t) (E t))
    → Right N s (decide d s r) (λ u. On d s u ⊎ ((t : State) × Again d s t × E t u))
unfolding decide chose
right-decide round s r l f = right-as (λ u e. inr (s, refl, e)) (λ u e. elim e [ inl z ↦ absurd z | inr x ↦ rw x.1 at x.2 ]) (f s refl)
right-decide leave s r l f = right-as (λ u e. inl e) (λ u e. elim e [ inl z ↦ z | inr x ↦ absurd x.1 ]) (right-done s (reach-self _ s l))
right-decide (either Greedy) s r l f =
    let on = chose (go_on Greedy) s in
    let round = chose (again Greedy) s in
    let x = right-done on (reach-self _ on l) in
    let y = f round refl in
    right-as (λ u e. elim e [ inl a ↦ inr (round, refl, a) | inr b ↦ inl b ]) (λ u e. elim e [ inl b ↦ inr b | inr a ↦ inl (rw a.1 at a.2) ])
    (right-append (right-chose s (again Greedy) l y) (makes-chose s (again Greedy) y) (right-chose s (go_on Greedy) l x) (makes-chose s (go_on Greedy) x) (λ c d p q. rw (p, q) round_first))
right-decide (either Lazy) s r l f =
    let on = chose (go_on Lazy) s in
    let round = chose (again Lazy) s in
    let x = right-done on (reach-self _ on l) in
    let y = f round refl in
    right-as (λ u e. elim e [ inl b ↦ inl b | inr a ↦ inr (round, refl, a) ]) (λ u e. elim e [ inl b ↦ inl b | inr a ↦ inr (rw a.1 at a.2) ])
    (right-append (right-chose s (go_on Lazy) l x) (makes-chose s (go_on Lazy) x) (right-chose s (again Lazy) l y) (makes-chose s (again Lazy) y) (λ c d p q. rw (p, q) go_on_first))
