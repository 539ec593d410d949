-- A check meets its demands, for any bytes: either nothing that has a start was sent, or one path was, and it ends within the budget or not. So it is settled by
-- them.
use Rattle.std.specs.Prelude.{◌≡◌, ◌⊎◌, Bool, length, leb}
use Rattle.std.proofs.Math.Path.{refl, ap, sym}
use Rattle.std.proofs.Common.{◌∙◌}
use mathlib.Core.List.{List, [], ◌∷◌, ◌++◌, map, append-nil}
use Rattle.std.proofs.Math.Logic.{inl, inr}
use Rattle.std.proofs.Math.Option.{none}
use Rattle.std.proofs.Math.Bool.{true, false}
use Prim.Native.Nat.{ℕ, zero, suc, ◌+◌, ◌*◌, ◌≤◌, ◌<◌}
use native.Mathlib.Omega.{arith}
use borrow.Author.Tests.{leb-true, leb-false}
use Rattle.syntax.specs.Tree.{Rule}
use Rattle.syntax.specs.Checkable.{unfollowed}
use Rattle.semantics.specs.States.{Choice, code, State, starting}
use Rattle.semantics.specs.Derivations.{Derivation}
use Rattle.semantics.specs.Proposals.{Trail, step_then, arrives, strays, Follow, ◌▸◌, steps_then, follow, path_of, Finding, a_reading, no_reading, exhausts, Check, unless_left, one_more, within, startless, start_of, check}
use Rattle.semantics.specs.CheckDemands.{steps_along, own_steps, steps_in, Sent, ReadingSent, NeedsMore, CheckDemand}
use Rattle.semantics.proofs.Laws.Cases.{clash, le-or}
use Rattle.semantics.proofs.Laws.Following.{Leads, leads-split, made, on-along, along}

abbrev told : Finding → ℕ → Check
told f steps = record { finding = f; steps = steps }

-- A path and its budget ------------------------------------------------------------------

-- what is found where a path ends
unfoldable ended : (start : ℕ) → Trail → Finding
ended start (step_then p) = ended start p
ended start (arrives t cs) = unless_left start t cs
ended start strays = no_reading

within-budget : (start budget : ℕ) (p : Trail) → steps_in p ≤ budget → within start budget p ≡ told (ended start p) (steps_in p)
unfolding within ended steps_in one_more
within-budget start budget (arrives t cs) h = refl
within-budget start budget strays h = refl
within-budget start zero (step_then p) h = absurd (omega arith)
within-budget start (suc budget) (step_then p) h = ap one_more (within-budget start budget p (omega arith))

beyond-budget : (start budget : ℕ) (p : Trail) → budget < steps_in p → within start budget p ≡ told (exhausts start) budget
unfolding within steps_in one_more
beyond-budget start budget (arrives t cs) h = absurd (omega arith)
beyond-budget start budget strays h = absurd (omega arith)
beyond-budget start zero (step_then p) h = refl
beyond-budget start (suc budget) (step_then p) h = ap one_more (beyond-budget start budget p (omega arith))

leads-reads : (start : ℕ) (p : Trail) (t : State) → Leads p t [] → ended start p ≡ a_reading start t
unfolding ended unless_left
leads-reads start (step_then p) t h = leads-reads start p t h
leads-reads start (arrives u cs) t h = rw h.1 (ap (λ (v : State). a_reading start v) h.0)
leads-reads start strays t h = absurd h

reads-leads : (start : ℕ) (p : Trail) (n : ℕ) (t : State) → ended start p ≡ a_reading n t → (start ≡ n) × Leads p t []
unfolding ended unless_left
reads-leads start (step_then p) n t e = reads-leads start p n t e
reads-leads start (arrives u []) n t e = (cc, (cc, refl))
reads-leads start (arrives u (c ∷ cs)) n t e = absurd (clash (cc))
reads-leads start strays n t e = absurd (clash (cc))

never-exhausts : (start : ℕ) (p : Trail) (n : ℕ) → ended start p ≡ exhausts n → ⊥
unfolding ended unless_left
never-exhausts start (step_then p) n e = never-exhausts start p n e
never-exhausts start (arrives u []) n e = clash (cc)
never-exhausts start (arrives u (c ∷ cs)) n e = clash (cc)
never-exhausts start strays n e = clash (cc)

steps-lead : (k : ℕ) (t : State) (ds : List ℕ) → Leads (steps_then k (arrives t ds)) t ds
unfolding steps_then
steps-lead zero t ds = (refl, refl)
steps-lead (suc k) t ds = steps-lead k t ds

steps-counted : (k : ℕ) (t : State) (ds : List ℕ) → steps_in (steps_then k (arrives t ds)) ≡ k
unfolding steps_then steps_in
steps-counted zero t ds = refl
steps-counted (suc k) t ds = ap suc (steps-counted k t ds)

steps-one : (t : State) (ds : List ℕ) → step_then (arrives t ds) ≡ steps_then 1 (arrives t ds)
unfolding steps_then
steps-one t ds = refl

-- The path from a start --------------------------------------------------------------------

module _ (sub : List ℕ) (r : Rule) (n : ℕ) where
  abbrev at_end : Follow
  at_end t ds = step_then (arrives t ds)

  -- what it arrives at, with all choices used, is their derivation
  pub path-derives : (cs : List ℕ) (t : State) → Leads (path_of sub r n cs) t [] → Derivation sub r n t × (cs ≡ map code t.path)
  unfolding path_of starting
  path-derives cs t h =
      let z = leads-split (follow sub r (starting n) cs) at_end t [] h in
      let x = made sub r (starting n) cs z.0 z.1 z.2 in
      let e : z.0 ≡ t = z.3.0 in
      let f : z.1 ≡ [] = z.3.1 in
      let q : t.path ≡ x.1.0 = ap (λ (u : State). u.path) (sym e) ∙ x.1.1 in (
        rw e at x.0,
        x.1.2 ∙ ap (λ (ds : List ℕ). map code x.1.0 ++ ds) f ∙ append-nil (map code x.1.0) ∙ ap (λ (p : List Choice). map code p) (sym q),
      )

  -- a derivation's choices make its path
  pub derivation-path : unfollowed r ≡ none → (t : State) (d : Derivation sub r n t) → path_of sub r n (map code t.path) ≡ steps_then (own_steps sub r n t d) (arrives t [])
  unfolding path_of starting
  derivation-path f t d =
      let k = steps_along sub r (starting n) t d in
      let x = along sub r f (starting n) t d in
      let q : map code t.path ≡ map code x.0 ++ [] = ap (λ (p : List Choice). map code p) x.1 ∙ sym (append-nil (map code x.0)) in
      let add_one : k + 1 ≡ suc k = omega arith in
      ap (λ (cs : List ℕ). follow sub r (starting n) cs ▸ at_end) q ∙ on-along (follow sub r (starting n) (map code x.0 ++ [])) at_end t t [] [] k 1 (x.2 []) (steps-one t []) ∙ ap (λ (m : ℕ). steps_then m (arrives t [])) add_one

  own-steps : unfollowed r ≡ none → (t : State) (d : Derivation sub r n t) → steps_in (path_of sub r n (map code t.path)) ≡ own_steps sub r n t d
  own-steps f t d = ap steps_in (derivation-path f t d) ∙ steps-counted (own_steps sub r n t d) t []

  own-end : unfollowed r ≡ none → (t : State) (d : Derivation sub r n t) → Leads (path_of sub r n (map code t.path)) t []
  own-end f t d = rw (derivation-path f t d) (steps-lead (own_steps sub r n t d) t [])

-- What was sent ------------------------------------------------------------------------------

module _ (sub proposal : List ℕ) where
  sent-once : (n m : ℕ) (cs ds : List ℕ) → Sent sub proposal n cs → Sent sub proposal m ds → (n ≡ m) × (cs ≡ ds)
  sent-once n m cs ds x y =
      let e : x.low ≡ y.low = cc (x.is, y.is) in
      let f : x.high ≡ y.high = cc (x.is, y.is) in
      (omega (arith, x.two_bytes, y.two_bytes, e, f), cc (x.is, y.is))

module _ (sub : List ℕ) (r : Rule) (budget : ℕ) where
  -- there is one start and one path, or none
  abbrev View : List ℕ → Type 0
  View proposal = ((n : ℕ) × (cs : List ℕ) × Sent sub proposal n cs × (check sub r budget proposal ≡ within n budget (path_of sub r n cs)))
      ⊎ (((n : ℕ) (cs : List ℕ) → ¬ Sent sub proposal n cs) × (check sub r budget proposal ≡ startless))

  two-more : (low high : ℕ) (cs : List ℕ) (b : Bool) → leb (low + 256 * high) (length sub) ≡ b → View (low ∷ high ∷ cs)
  unfolding check start_of
  two-more low high cs true e = inl (low + 256 * high, cs, record { low = low; high = high; is = refl; two_bytes = refl; start = leb-true (low + 256 * high) (length sub) e }, rw e refl)
  two-more low high cs false e = inr (
    λ n ds h.
        let p : low ≡ h.low = cc h.is in
        let q : high ≡ h.high = cc h.is in
        omega (arith, leb-false (low + 256 * high) (length sub) e, h.start, h.two_bytes, p, q),
    rw e refl,
  )

  viewed : (proposal : List ℕ) → View proposal
  unfolding check
  viewed [] = inr (λ n cs h. clash (cc h.is), refl)
  viewed (low ∷ []) = inr (λ n cs h. clash (cc h.is), refl)
  viewed (low ∷ high ∷ cs) = two-more low high cs (leb (low + 256 * high) (length sub)) refl

  -- The demands -------------------------------------------------------------------------------

  module _ (plain : unfollowed r ≡ none) (proposal : List ℕ) where
    no_start : ((n : ℕ) (cs : List ℕ) → ¬ Sent sub proposal n cs) → CheckDemand sub proposal r budget startless
    unfolding startless
    no_start never = record {
      exhausted_exactly = λ n. (λ e. absurd (clash (cc)), λ w. absurd (never n w.choices w.sent));
      accepted_exactly = λ n t. (λ e. absurd (clash (cc)), λ w. absurd (never n (map code t.path) w.sent));
      otherwise_none = (λ e. (λ n w. never n w.choices w.sent, λ n t w. never n (map code t.path) w.sent), λ x. refl);
      steps_accepted = λ n t w. absurd (never n (map code t.path) w.sent);
      steps_exhausted = λ n e. absurd (clash (cc));
      steps_none = λ e n cs s. absurd (never n cs s);
      steps_startless = λ x. refl;
    }

    module _ (n : ℕ) (cs : List ℕ) (sent : Sent sub proposal n cs) where
      abbrev p : Trail
      p = path_of sub r n cs

      -- a derivation of what was sent is the path's
      reading-path : (m : ℕ) (t : State) → (w : ReadingSent sub proposal r budget m t) → (m ≡ n) × Leads p t [] × (steps_in p ≡ own_steps sub r m t w.derives)
      reading-path m t w =
          let o = sent-once sub proposal m n (map code t.path) cs w.sent sent in
          let f : path_of sub r m (map code t.path) ≡ path_of sub r n cs = rw (o.0, o.1) in
          (o.0, rw f at (own-end sub r m plain t w.derives), rw f at (own-steps sub r m plain t w.derives))

      needs-path : (m : ℕ) → NeedsMore sub proposal r budget m → (m ≡ n) × (budget < steps_in p)
      needs-path m w =
          let o = sent-once sub proposal m n w.choices cs w.sent sent in
          let f : path_of sub r m w.choices ≡ path_of sub r n cs = rw (o.0, o.1) in
          (o.0, rw f at w.needs)

      module _ (h : steps_in p ≤ budget) where
        reading-found : (m : ℕ) (t : State) → ended n p ≡ a_reading m t → ReadingSent sub proposal r budget m t
        reading-found m t e =
            let z = reads-leads n p m t e in
            let x = path-derives sub r n cs t z.1 in
            let s : Sent sub proposal n (map code t.path) = rw x.1 at sent in
            let k : own_steps sub r n t x.0 ≤ budget = omega (arith, h, rw (← x.1) at (own-steps sub r n plain t x.0)) in
            let w : ReadingSent sub proposal r budget n t = record { sent = s; derives = x.0; in_time = k } in
            rw z.0 at w

        found-reading : (m : ℕ) (t : State) → ReadingSent sub proposal r budget m t → ended n p ≡ a_reading m t
        found-reading m t w = let x = reading-path m t w in leads-reads n p t x.1 ∙ ap (λ (k : ℕ). a_reading k t) (sym x.0)

        in-budget : CheckDemand sub proposal r budget (told (ended n p) (steps_in p))
        in-budget = record {
          exhausted_exactly = λ m. (λ e. absurd (never-exhausts n p m e), λ w. absurd (omega (arith, h, (needs-path m w).1)));
          accepted_exactly = λ m t. (reading-found m t, found-reading m t);
          otherwise_none = (
            λ e. (λ m w. omega (arith, h, (needs-path m w).1), λ m t w. clash (cc (e, found-reading m t w))),
            λ x. none_of (ended n p) refl x.1,
          );
          steps_accepted = λ m t w. (reading-path m t w).2;
          steps_exhausted = λ m e. absurd (never-exhausts n p m e);
          steps_none = λ e m ds s. (let o = sent-once sub proposal m n ds cs s sent in rw (o.0, o.1));
          steps_startless = λ x. absurd (x n cs sent);
        }
          where
            none_of : (f : Finding) → ended n p ≡ f → ((m : ℕ) (t : State) → ¬ ReadingSent sub proposal r budget m t) → ended n p ≡ no_reading
            none_of (a_reading m t) e x = absurd (x m t (reading-found m t e))
            none_of no_reading e x = e
            none_of (exhausts m) e x = absurd (never-exhausts n p m e)

      over-budget : budget < steps_in p → CheckDemand sub proposal r budget (told (exhausts n) budget)
      over-budget h = record {
        exhausted_exactly = λ m. (λ e. (let q : n ≡ m = cc in rw q at more), λ w. ap exhausts (sym (needs-path m w).0));
        accepted_exactly = λ m t. (λ e. absurd (clash (cc)), λ w. absurd (omega (arith, h, w.in_time, (reading-path m t w).2)));
        otherwise_none = (λ e. absurd (clash (cc)), λ x. absurd (x.0 n more));
        steps_accepted = λ m t w. absurd (omega (arith, h, w.in_time, (reading-path m t w).2));
        steps_exhausted = λ m e. refl;
        steps_none = λ e m ds s. absurd (clash (cc));
        steps_startless = λ x. absurd (x n cs sent);
      }
        where
          more : NeedsMore sub proposal r budget n
          more = record { choices = cs; sent = sent; needs = h }

    pub check-demand : CheckDemand sub proposal r budget (check sub r budget proposal)
    check-demand = elim (viewed proposal) [
      | inl v ↦ (
          let n = v.0 in
          let cs = v.1 in
          elim (le-or (steps_in (path_of sub r n cs)) budget) [
            | inl h ↦ rw (v.3, within-budget n budget (path_of sub r n cs) h) (in-budget n cs v.2 h)
            | inr h ↦ rw (v.3, beyond-budget n budget (path_of sub r n cs) h) (over-budget n cs v.2 h)
          ])
      | inr v ↦ rw v.1 (no_start v.0)
    ]

  -- steps are at most the budget
  pub check-steps : (proposal : List ℕ) → (check sub r budget proposal).steps ≤ budget
  unfolding startless
  check-steps proposal = elim (viewed proposal) [
    | inl v ↦ (
        let n = v.0 in
        let cs = v.1 in
        elim (le-or (steps_in (path_of sub r n cs)) budget) [
          | inl h ↦ rw (v.3, within-budget n budget (path_of sub r n cs) h) h
          | inr h ↦ rw (v.3, beyond-budget n budget (path_of sub r n cs) h) (omega arith)
        ])
    | inr v ↦ rw v.1 (omega arith)
  ]

  -- Nothing else meets them -------------------------------------------------------------------

  module _ (proposal : List ℕ) where
    pub check-settles : (a b : Check) → CheckDemand sub proposal r budget a → CheckDemand sub proposal r budget b → a ≡ b
    check-settles a b x y = go a.finding refl
      where
        both : a.finding ≡ b.finding → a.steps ≡ b.steps → a ≡ b
        both e f = rw (e, f)

        go : (f : Finding) → a.finding ≡ f → a ≡ b
        go (a_reading n t) e =
            let w = (x.accepted_exactly n t).0 e in
            both (e ∙ sym ((y.accepted_exactly n t).1 w)) (x.steps_accepted n t w ∙ sym (y.steps_accepted n t w))
        go no_reading e =
            let f = y.otherwise_none.1 (x.otherwise_none.0 e) in
            both (e ∙ sym f) (elim (viewed proposal) [
              | inl v ↦ x.steps_none e v.0 v.1 v.2 ∙ sym (y.steps_none f v.0 v.1 v.2)
              | inr v ↦ x.steps_startless v.0 ∙ sym (y.steps_startless v.0)
            ])
        go (exhausts n) e = let f = (y.exhausted_exactly n).1 ((x.exhausted_exactly n).0 e) in both (e ∙ sym f) (x.steps_exhausted n e ∙ sym (y.steps_exhausted n f))

-- A bigger budget (02, request n) -------------------------------------------------------------

-- "a reading" and "no reading" stay, with their steps, at every larger budget
module _ (sub : List ℕ) (r : Rule) (proposal : List ℕ) (budget more : ℕ) (larger : budget ≤ more) where
  pub check-stays : ((n : ℕ) → ¬ ((check sub r budget proposal).finding ≡ exhausts n)) → check sub r more proposal ≡ check sub r budget proposal
  check-stays f = elim (viewed sub r budget proposal) [
    | inl v ↦ elim (viewed sub r more proposal) [
      | inl w ↦ (
          let p = path_of sub r v.0 v.1 in
          let o = sent-once sub proposal v.0 w.0 v.1 w.1 v.2 w.2 in
          let q : check sub r more proposal ≡ within v.0 more p = rw (← o.0, ← o.1) at w.3 in
          elim (le-or (steps_in (path_of sub r v.0 v.1)) budget) [
            | inl h ↦ q ∙ within-budget v.0 more p (omega arith) ∙ sym (v.3 ∙ within-budget v.0 budget p h)
            | inr h ↦ absurd (f v.0 (ap (λ (a : Check). a.finding) (v.3 ∙ beyond-budget v.0 budget p h)))
          ])
      | inr w ↦ absurd (w.0 v.0 v.1 v.2)
    ]
    | inr v ↦ elim (viewed sub r more proposal) [ inl w ↦ absurd (v.0 w.0 w.1 w.2) | inr w ↦ w.1 ∙ sym v.1 ]
  ]
