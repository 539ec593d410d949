-- Every derivation of a rule that a check does not refuse can be proposed: its start and its choices fit into bytes, and they are accepted.
use Rattle.std.specs.Prelude.{◌≡◌, refl, List, [], ◌∷◌, ◌++◌, map, Bool, true, false, ℕ, ◌+◌, ◌*◌, ◌/◌, ◌%◌, ◌≤◌, ◌<◌, length, eqb}
use Rattle.std.proofs.Common.{ap, ◌∙◌, arith}
use Rattle.std.proofs.Math.Logic.{inl, inr}
use Rattle.std.proofs.Math.Option.{none}
use Rattle.std.proofs.lemmas.Bool.{eqb-false}
use Rattle.syntax.specs.declared.Greed.{Greed}
use Rattle.syntax.specs.declared.Most.{Most}
use Rattle.syntax.specs.Limits.{subject_limit, byte_limit, branch_limit}
use Rattle.syntax.specs.Tree.{Rule, empty, item, seq, alt, group, repeat, held, look, Branches, one, also, branch_count}
use Rattle.syntax.specs.Reading.{first_some}
use Rattle.syntax.specs.Checkable.{unfollowed, crowded_at, crowded, crowded_in}
use Rattle.syntax.specs.Laws.Formation.{first-none, tested}
use Rattle.semantics.specs.States.{Choice, branch, again, go_on, code, State, starting, chose, moved, closed, Row}
use Rattle.semantics.specs.Repeats.{Next, round, leave, either, decision}
use Rattle.semantics.specs.Derivations.{Again, On, Rounds, stop, turn, Derives, Picks, Derivation}
use Rattle.semantics.specs.Proposals.{a_reading, check}
use Rattle.semantics.specs.Checks.{check_reading}
use Rattle.semantics.specs.Demands.{In, Reading}
use Rattle.semantics.specs.CheckDemands.{own_steps, Sent, ReadingSent, proposal_of, Proposed}
use Rattle.semantics.proofs.Laws.Cases.{three}
use Rattle.semantics.proofs.Laws.Following.{try-path}
use Rattle.semantics.proofs.Laws.Checks.{check-demand}
use Rattle.semantics.proofs.Laws.CheckCalls.{returns-reading}

-- Choices that fit into bytes -------------------------------------------------------------

abbrev Small : List Choice → Type 0
Small [] = Unit
Small (c ∷ p) = (code c < branch_limit) × Small p

small-behind : (p : List Choice) (c : Choice) → Small p → code c < branch_limit → Small (p ++ (c ∷ []))
small-behind [] c h l = (l, tt)
small-behind (d ∷ p) c h l = (h.0, small-behind p c h.1 l)

small-chose : (c : Choice) (s : State) → code c < branch_limit → Small s.path → Small (chose c s).path
unfolding chose
small-chose c s l h = small-behind s.path c h l

again-small : (g : Greed) → code (again g) < branch_limit
unfolding code branch_limit byte_limit
again-small g = omega arith

go_on-small : (g : Greed) → code (go_on g) < branch_limit
unfolding code branch_limit byte_limit
go_on-small g = omega arith

begun-small : (d : Next) (s t : State) → Again d s t → Small s.path → Small t.path
begun-small round s t e h = rw e h
begun-small leave s t e h = absurd e
begun-small (either g) s t e h = rw e (small-chose (again g) s (again-small g) h)

gone-small : (d : Next) (s t : State) → On d s t → Small s.path → Small t.path
gone-small round s t e h = absurd e
gone-small leave s t e h = rw e h
gone-small (either g) s t e h = rw e (small-chose (go_on g) s (go_on-small g) h)

rounds-small : {B : State → State → Type 0} (least : ℕ) (most : Most) (g : Greed) {n : ℕ} {idle : Bool} {s t : State} → ((u v : State) → B u v → Small u.path → Small v.path) → Rounds B least most g n idle s t → Small s.path → Small t.path
rounds-small least most g f (stop {n = n} {idle = idle} {s = s} {t = t} o) h = gone-small (decision least most g n idle) s t o h
rounds-small least most g f (turn {n = n} {idle = idle} {s = s} {t = t} {u = u} a b r) h = rounds-small least most g f r (f t u b (begun-small (decision least most g n idle) s t a h))

-- no bar before a 257th branch was found before a branch, there, or in it: its number fits
not-crowded : (bs : Branches) (bar : ℕ) (b : Rule) → first_some (crowded_in bs) (first_some (crowded_at (branch_count bs) bar) (crowded b)) ≡ none → (crowded_in bs ≡ none) × (crowded_at (branch_count bs) bar ≡ none) × (crowded b ≡ none)
not-crowded bs bar b e =
    let x = first-none (crowded_in bs) (first_some (crowded_at (branch_count bs) bar) (crowded b)) e in
    let y = first-none (crowded_at (branch_count bs) bar) (crowded b) x.1 in
    (x.0, y.0, y.1)

one-fits : 0 < branch_limit
unfolding branch_limit byte_limit
one-fits = omega arith

one_below : (n limit : ℕ) → n ≤ limit → (n ≡ limit → ⊥) → n < limit
one_below n limit l h = elim (three n limit) [ inl k ↦ k | inr x ↦ elim x [ inl e ↦ absurd (h e) | inr k ↦ omega arith ] ]

fits-behind : (n bar : ℕ) → n ≤ branch_limit → crowded_at n bar ≡ none → n < branch_limit
unfolding crowded_at
fits-behind n bar l e = one_below n branch_limit l (eqb-false n branch_limit (tested (eqb n branch_limit) bar e))

few_branches : (bs : Branches) → crowded_in bs ≡ none → branch_count bs ≤ branch_limit
unfolding crowded_in branch_count
few_branches (one a) e = one-fits
few_branches (also bs bar b) e =
    let x = not-crowded bs bar b e in
    fits-behind (branch_count bs) bar (few_branches bs x.0) x.1

module _ (sub : List ℕ) where
  mutual
    unfolding crowded crowded_in code moved closed

    small : (r : Rule) → crowded r ≡ none → (s t : State) → Derives sub r s t → Small s.path → Small t.path
    small empty e s t d h = rw d h
    small (item place i) e s t d h = rw (try-path sub i s t d) h
    small (seq a b) e s t d h = let x = first-none (crowded a) (crowded b) e in small b x.1 d.0 t d.2 (small a x.0 s d.0 d.1 h)
    small (alt bs bar b) e s t (inl d) h = let x = not-crowded bs bar b e in small-in bs x.0 s t d h
    small (alt bs bar b) e s t (inr d) h =
        let x = not-crowded bs bar b e in
        small b x.2 _ t d (small-chose (branch (branch_count bs)) s (fits-behind (branch_count bs) bar (few_branches bs x.0) x.1) h)
    small (group n a) e s t d h = rw d.2 (small a e s d.0 d.1 h)
    small (repeat place least most g a) e s t d h = rounds-small least most g (λ u v. small a e u v) d h
    small (held place a) e s t d h = small a e s t d.0 h
    small (look place false a) e s t d h = rw d.2 (small a e s d.0 d.1.0 h)
    small (look place true a) e s t d h = rw d.1 h

    small-in : (bs : Branches) → crowded_in bs ≡ none → (s t : State) → Picks sub bs s t → Small s.path → Small t.path
    small-in (one a) e s t d h = small a e _ t d (small-chose (branch 0) s one-fits h)
    small-in (also bs bar b) e s t (inl d) h = let x = not-crowded bs bar b e in small-in bs x.0 s t d h
    small-in (also bs bar b) e s t (inr d) h =
        let x = not-crowded bs bar b e in
        small b x.2 _ t d (small-chose (branch (branch_count bs)) s (fits-behind (branch_count bs) bar (few_branches bs x.0) x.1) h)

small_bytes : (p : List Choice) → Small p → (b : ℕ) → In b (map code p) → b ≤ byte_limit
unfolding branch_limit
small_bytes [] h b i = absurd i
small_bytes (c ∷ p) h b (inl e) = omega (arith, h.0, e)
small_bytes (c ∷ p) h b (inr i) = small_bytes p h.1 b i

-- The way back ---------------------------------------------------------------------------------

two_bytes-fit : (n : ℕ) → n ≤ subject_limit → (n % 256 ≤ byte_limit) × (n / 256 ≤ byte_limit) × (n ≡ n % 256 + 256 * (n / 256))
unfolding subject_limit byte_limit
two_bytes-fit n h = (omega arith, omega arith, omega arith)

module _ (sub : List ℕ) (r : Rule) (n : ℕ) (t : State) (start : n ≤ length sub) (d : Derivation sub r n t) where
  -- its own choices are accepted within any budget that has its own steps
  pub proposal-accepted : unfollowed r ≡ none → (budget : ℕ) → length sub ≤ subject_limit → own_steps sub r n t d ≤ budget → ((check sub r budget (proposal_of n t)).finding ≡ a_reading n t) × ((check sub r budget (proposal_of n t)).steps ≡ own_steps sub r n t d)
  unfolding proposal_of
  proposal-accepted f budget l h =
      let b = two_bytes-fit n (omega arith) in
      let s : Sent sub (proposal_of n t) n (map code t.path) = record { low = n % 256; high = n / 256; is = refl; two_bytes = b.2; start = start } in
      let w : ReadingSent sub (proposal_of n t) r budget n t = record { sent = s; derives = d; in_time = h } in
      let x = check-demand sub r budget f (proposal_of n t) in
      ((x.accepted_exactly n t).1 w, x.steps_accepted n t w)

  pub proposal-bytes : length sub ≤ subject_limit → crowded r ≡ none → (b : ℕ) → In b (proposal_of n t) → b ≤ byte_limit
  unfolding proposal_of starting
  proposal-bytes l e b i =
      let f = two_bytes-fit n (omega arith) in
      elim i [
        | inl q ↦ omega (arith, f.0, q)
        | inr j ↦ elim j [ inl q ↦ omega (arith, f.1, q) | inr k ↦ small_bytes t.path (small sub r e (starting n) t d tt) b k ]
      ]

-- each reading of a rule that a check does not refuse has a proposal
pub reading-proposed : (sub : List ℕ) (r : Rule) → length sub ≤ subject_limit → crowded r ≡ none → (x : Row) → Reading sub r x → Proposed sub r x
reading-proposed sub r l e x w = record {
  n = w.n;
  t = w.t;
  derives = w.derives;
  is = w.is;
  bytes = proposal-bytes sub r w.n w.t w.start w.derives l e;
  accepted = λ c groups k same h.
      let p = proposal_of w.n w.t in
      let a = proposal-accepted sub r w.n w.t w.start w.derives k.followed c.budget l h in
      let z = returns-reading p c r groups k w.n w.t (ap (λ (s : List ℕ). (check s r c.budget p).finding) same ∙ a.0) in
      (z.0 ∙ ap (λ (s : List ℕ). check_reading (check s r c.budget p).steps) same ∙ ap check_reading a.1, rw (← w.is) at z.1);
}
