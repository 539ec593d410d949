-- What loops over the starts and the ends keep: the whole is what was told or written so far, and then what the rest of the traces makes.
-- One law for each thing that a turn can meet: steps with no end, an end, the budget used up, a walk's end.
use Rattle.std.specs.Prelude.{◌≡◌, refl, ◌⊎◌, Bool, true, false, ◌||◌}
use Rattle.std.proofs.Common.{ap, ◌∙◌}
use Rattle.std.proofs.Math.Path.{sym}
use mathlib.Core.List.{List, [], ◌∷◌, ◌++◌, append_assoc, append-nil}
use Rattle.std.proofs.Math.Logic.{inl, inr}
use Prim.Native.Nat.{ℕ, zero, suc, ◌+◌, ◌-◌, ◌≤◌, ◌<◌}
use native.Mathlib.Omega.{arith}
use Rattle.std.proofs.Math.ListN.{length, length-append}
use Rattle.syntax.specs.Sets.{same_bytes}
use Rattle.syntax.specs.Tree.{Rule}
use Rattle.semantics.specs.States.{State, Row, row}
use Rattle.semantics.specs.Walk.{Event, step, miss, end, Trace, trace}
use Rattle.semantics.specs.Runs.{Moment, plain, ends, Stop, Run, moment, meets, spend, run, runs}
use Rattle.semantics.specs.Answers.{matched, not_matched, exhausted, Answer, unmatched, one_step_more, first, answer, known, unless, fresh, complete, full, exhausted_at, Listing, unfilled, plainly, with_row, fill, listing}
use Rattle.semantics.specs.Demands.{In}
use Rattle.semantics.proofs.Laws.Cases.{clash, bool}
use Rattle.semantics.proofs.Laws.Members.{in_left, in_right, in-or}
use Rattle.semantics.proofs.Laws.Newness.{known_in, in-known, new-not, not_new}

-- no end in a part of a trace
abbrev pub Quiet : Trace → Type 0
Quiet [] = Unit {0}
Quiet (step ∷ es) = Quiet es
Quiet (miss p a ∷ es) = Quiet es
Quiet (end t ∷ es) = ⊥

-- Newness looks only at the rows that can come --------------------------

fresh-same : (s s' : List Row) (ms : List Moment) → ((m : ℕ) (t : State) → In (ends m t) ms → known (row m t) s ≡ known (row m t) s') → fresh s ms ≡ fresh s' ms
unfolding fresh known
fresh-same s s' [] f = refl
fresh-same s s' (plain ∷ ms) f = rw (fresh-same s s' ms (λ m t i. f m t (inr i)))
fresh-same s s' (ends n t ∷ ms) f = rw (f n t (inl refl), fresh-same (row n t ∷ s) (row n t ∷ s') ms (λ m u i. ap (λ (b : Bool). same_bytes (row m u) (row n t) || b) (f m u (inr i))))

known_same : (x : Row) (s s' : List Row) → (In x s → In x s') → (In x s' → In x s) → known x s ≡ known x s'
known_same x s s' f g = elim (bool (known x s')) [
  | inl e ↦ in-known x s (g (known_in x s' e)) ∙ sym e
  | inr e ↦ not_new x s (λ i. new-not x s' e (f i)) ∙ sym e
]

spend-starts : (n b : ℕ) (es : Trace) (x : Run) (m : ℕ) (t : State) → In (ends m t) (spend n b es x).met → (n ≡ m) ⊎ In (ends m t) x.met
unfolding spend meets moment
spend-starts n b [] x m t i = inr i
spend-starts n zero (e ∷ es) x m t i = absurd i
spend-starts n (suc b) (step ∷ es) x m t i = elim i [ inl e ↦ absurd (clash (cc)) | inr j ↦ spend-starts n b es x m t j ]
spend-starts n (suc b) (miss p a ∷ es) x m t i = elim i [ inl e ↦ absurd (clash (cc)) | inr j ↦ spend-starts n b es x m t j ]
spend-starts n (suc b) (end u ∷ es) x m t i = elim i [ inl e ↦ inl (cc) | inr j ↦ spend-starts n b es x m t j ]

run-starts : (b : ℕ) (w : ℕ → Trace) (n c m : ℕ) (t : State) → In (ends m t) (run b w n c).met → n ≤ m
unfolding run
run-starts b w n zero m t i = absurd i
run-starts b w n (suc c) m t i = elim (spend-starts n b (w n) (run b w (suc n) c) m t i) [ inl e ↦ omega arith | inr j ↦ omega (arith, run-starts b w (suc n) c m t j) ]

-- k steps that reach no end
unfoldable pub plain_steps : ℕ → List Moment → List Moment
plain_steps zero ms = ms
plain_steps (suc k) ms = plain ∷ plain_steps k ms

spend-quiet : (n b : ℕ) (p es : Trace) (x : Run) → Quiet p → length p ≤ b → spend n b (p ++ es) x ≡ record { met = plain_steps (length p) (spend n (b - length p) es x).met; stop = (spend n (b - length p) es x).stop }
unfolding spend meets moment plain_steps
spend-quiet n b [] es x q l = let e : b - 0 ≡ b = omega arith in rw e
spend-quiet n zero (e ∷ p) es x q l = absurd (omega arith)
spend-quiet n (suc b) (step ∷ p) es x q l = let f : suc b - suc (length p) ≡ b - length p = omega arith in rw (spend-quiet n b p es x q (omega arith), f)
spend-quiet n (suc b) (miss u v ∷ p) es x q l = let f : suc b - suc (length p) ≡ b - length p = omega arith in rw (spend-quiet n b p es x q (omega arith), f)
spend-quiet n (suc b) (end t ∷ p) es x q l = absurd q

-- The loop that seeks an end: the match's, and that of a search (02, request g) ----

-- an answer after s steps that reached no end
unfoldable pub after_steps : ℕ → Answer → Answer
after_steps s a = record { outcome = a.outcome; steps = s + a.steps }

first_plain : (s k : ℕ) (ms : List Moment) (x : Stop) → after_steps s (first (plain_steps k ms) x) ≡ after_steps (s + k) (first ms x)
unfolding after_steps first one_step_more plain_steps
first_plain s zero ms x = let e : s + 0 ≡ s = omega arith in rw e
first_plain s (suc k) ms x = let e : s + suc (first (plain_steps k ms) x).steps ≡ suc s + (first (plain_steps k ms) x).steps = omega arith in let f : s + suc k ≡ suc s + k = omega arith in rw (e, f) (first_plain (suc s) k ms x)

module _ (sub : List ℕ) (r : Rule) (budget : ℕ) where
  -- es is left of the walk from n with b steps left, and c starts come after it
  unfoldable pub ahead : ℕ → ℕ → ℕ → Trace → Run
  ahead n c b es = spend n b es (run budget (trace sub r) (suc n) c)

  -- s steps are taken, and no end was reached
  abbrev pub SeekAt : Answer → ℕ → ℕ → ℕ → ℕ → Trace → Type 0
  SeekAt whole s n c b es = whole ≡ after_steps s (first (ahead n c b es).met (ahead n c b es).stop)

  module _ (whole : Answer) (s n c b : ℕ) where
    pub seek-quiet : (p es : Trace) → Quiet p → length p ≤ b → SeekAt whole s n c b (p ++ es) → SeekAt whole (s + length p) n c (b - length p) es
    unfolding ahead
    seek-quiet p es q l h = h ∙ rw (spend-quiet n b p es (run budget (trace sub r) (suc n) c) q l) (first_plain s (length p) _ _)

    pub seek-end : (t : State) (es : Trace) → SeekAt whole s n c (suc b) (end t ∷ es) → whole ≡ record { outcome = matched n t; steps = s + 1 }
    unfolding ahead spend meets moment first after_steps
    seek-end t es h = h

    pub seek-over : (e : Event) (es : Trace) → SeekAt whole s n c 0 (e ∷ es) → whole ≡ record { outcome = exhausted n; steps = s }
    unfolding ahead spend first unmatched after_steps
    seek-over e es h = let f : s + 0 ≡ s = omega arith in h ∙ rw f

    pub seek-next : SeekAt whole s n (suc c) b [] → SeekAt whole s (suc n) c budget (trace sub r (suc n))
    unfolding ahead spend run
    seek-next h = h

    pub seek-last : SeekAt whole s n 0 b [] → whole ≡ record { outcome = not_matched; steps = s }
    unfolding ahead spend run first unmatched after_steps
    seek-last h = let f : s + 0 ≡ s = omega arith in h ∙ rw f

  -- before all starts, the match's answer
  pub match-begin : SeekAt (answer sub r budget) 0 0 (length sub) budget (trace sub r 0)
  unfolding ahead answer runs run after_steps
  match-begin = let a = answer sub r budget in let e : 0 + a.steps ≡ a.steps = omega arith in rw e

-- The listing's loop ---------------------------------------------------

-- a listing after some rows and s steps
unfoldable pub after_rows : List Row → ℕ → Listing → Listing
after_rows done s l = record { rows = done ++ l.rows; ending = l.ending; steps = s + l.steps }

after_rows-step : (done : List Row) (s : ℕ) (l : Listing) → after_rows done s (plainly l) ≡ after_rows done (suc s) l
unfolding after_rows plainly
after_rows-step done s l = let e : s + suc l.steps ≡ suc s + l.steps = omega arith in rw e

after_rows-row : (old seen : List Row) (x : Row) (s : ℕ) (l : Listing) → after_rows (old ++ seen) s (with_row x l) ≡ after_rows (old ++ (seen ++ x ∷ [])) (suc s) l
unfolding after_rows with_row
after_rows-row old seen x s l = let e : s + suc l.steps ≡ suc s + l.steps = omega arith in rw e (simp append_assoc)

fresh-plain : (seen : List Row) (k : ℕ) (ms : List Moment) → fresh seen (plain_steps k ms) ≡ plain_steps k (fresh seen ms)
unfolding fresh plain_steps
fresh-plain seen zero ms = refl
fresh-plain seen (suc k) ms = rw (fresh-plain seen k ms)

fill-plain : (done : List Row) (s k room : ℕ) (ms : List Moment) (x : Stop) → after_rows done s (fill room (plain_steps k ms) x) ≡ after_rows done (s + k) (fill room ms x)
unfolding after_rows fill plainly plain_steps
fill-plain done s zero room ms x = let e : s + 0 ≡ s = omega arith in rw e
fill-plain done s (suc k) room ms x = let e : s + suc (fill room (plain_steps k ms) x).steps ≡ suc s + (fill room (plain_steps k ms) x).steps = omega arith in let f : s + suc k ≡ suc s + k = omega arith in rw (e, f) (fill-plain done (suc s) k room ms x)

module _ (sub : List ℕ) (r : Rule) (budget room : ℕ) where
  -- old are the rows of earlier starts, seen those of this one; s steps are taken
  pub record ListAt (old seen : List Row) (s n c b : ℕ) (es : Trace) : Type 0 where
    pub fits : length (old ++ seen) ≤ room
    pub mine : (x : Row) → In x seen → (t : State) × (x ≡ row n t)
    pub is : listing sub r budget room ≡ after_rows (old ++ seen) s (fill (room - length (old ++ seen)) (fresh seen (ahead sub r budget n c b es).met) (ahead sub r budget n c b es).stop)

  pub list-begin : ListAt [] [] 0 0 (length sub) budget (trace sub r 0)
  unfolding ahead listing runs run after_rows
  list-begin = let l = listing sub r budget room in let e : 0 + l.steps ≡ l.steps = omega arith in let f : room - 0 ≡ room = omega arith in record { fits = omega arith; mine = λ x i. absurd i; is = rw (f, e) }

  module _ (old seen : List Row) (s n c b : ℕ) where
    pub list-quiet : (p es : Trace) → Quiet p → length p ≤ b → ListAt old seen s n c b (p ++ es) → ListAt old seen (s + length p) n c (b - length p) es
    unfolding ahead
    list-quiet p es q l h = record {
      fits = h.fits;
      mine = h.mine;
      is = h.is ∙ rw (spend-quiet n b p es (run budget (trace sub r) (suc n) c) q l) (rw (fresh-plain seen (length p) (spend n (b - length p) es (run budget (trace sub r) (suc n) c)).met) (fill-plain (old ++ seen) s (length p) (room - length (old ++ seen)) _ _));
    }

    pub list-known : (t : State) (es : Trace) → known (row n t) seen ≡ true → ListAt old seen s n c (suc b) (end t ∷ es) → ListAt old seen (suc s) n c b es
    unfolding ahead spend meets moment fresh unless fill
    list-known t es k h =
        let x = ahead sub r budget n c b es in
        let f : fresh (row n t ∷ seen) x.met ≡ fresh seen x.met = fresh-same (row n t ∷ seen) seen x.met (λ m u i. known_same (row m u) (row n t ∷ seen) seen (λ j. elim j [ inl e ↦ rw e at (known_in (row n t) seen k) | inr l ↦ l ]) (λ j. inr j)) in
        record { fits = h.fits; mine = h.mine; is = h.is ∙ rw k (rw f (after_rows-step (old ++ seen) s (fill (room - length (old ++ seen)) (fresh seen x.met) x.stop))) }

    pub list-new : (t : State) (es : Trace) → known (row n t) seen ≡ false → length (old ++ seen) < room → ListAt old seen s n c (suc b) (end t ∷ es) → ListAt old (seen ++ row n t ∷ []) (suc s) n c b es
    unfolding ahead spend meets moment fresh unless fill
    list-new t es k l h =
        let x = ahead sub r budget n c b es in
        let one = row n t ∷ [] in
        let size : length (old ++ (seen ++ one)) ≡ suc (length (old ++ seen)) = simp length-append (omega arith) in
        let e : room - length (old ++ seen) ≡ suc (room - length (old ++ (seen ++ one))) = omega arith in
        let f : fresh (row n t ∷ seen) x.met ≡ fresh (seen ++ one) x.met = fresh-same (row n t ∷ seen) (seen ++ one) x.met (λ m u i. known_same (row m u) (row n t ∷ seen) (seen ++ one) (λ j. elim j [ inl q ↦ in_right (row m u) seen one (inl q) | inr v ↦ in_left (row m u) seen one v ]) (λ j. elim (in-or (row m u) seen one j) [ inl v ↦ inr v | inr v ↦ elim v [ inl q ↦ inl q | inr z ↦ absurd z ] ])) in
        record {
          fits = omega arith;
          mine = λ y j. elim (in-or y seen one j) [ inl v ↦ h.mine y v | inr v ↦ elim v [ inl q ↦ (t, sym q) | inr z ↦ absurd z ] ];
          is = h.is ∙ rw (k, e) (rw f (after_rows-row old seen (row n t) s (fill (room - length (old ++ (seen ++ one))) (fresh (seen ++ one) x.met) x.stop)));
        }

    pub list_full : (t : State) (es : Trace) → known (row n t) seen ≡ false → length (old ++ seen) ≡ room → ListAt old seen s n c (suc b) (end t ∷ es) → listing sub r budget room ≡ record { rows = old ++ seen; ending = full; steps = s + 1 }
    unfolding ahead spend meets moment fresh unless fill after_rows
    list_full t es k l h = let e : room - length (old ++ seen) ≡ 0 = omega arith in h.is ∙ rw (k, e, append-nil (old ++ seen))

    pub list_over : (e : Event) (es : Trace) → ListAt old seen s n c 0 (e ∷ es) → listing sub r budget room ≡ record { rows = old ++ seen; ending = exhausted_at n; steps = s }
    unfolding ahead spend fresh fill unfilled after_rows
    list_over e es h = let f : s + 0 ≡ s = omega arith in h.is ∙ rw (append-nil (old ++ seen), f)

    pub list-next : ListAt old seen s n (suc c) b [] → ListAt (old ++ seen) [] s (suc n) c budget (trace sub r (suc n))
    unfolding ahead spend run row
    list-next h =
        let x = run budget (trace sub r) (suc n) (suc c) in
        let f : fresh seen x.met ≡ fresh [] x.met = fresh-same seen [] x.met (λ m u i. known_same (row m u) seen [] (λ j. (let y = h.mine (row m u) j in let q : m ≡ n = cc y.1 in absurd (omega (arith, run-starts budget (trace sub r) (suc n) (suc c) m u i)))) (λ j. absurd j)) in
        record { fits = rw (append-nil (old ++ seen)) h.fits; mine = λ y j. absurd j; is = h.is ∙ rw (append-nil (old ++ seen)) (rw f) }

    pub list-last : ListAt old seen s n 0 b [] → listing sub r budget room ≡ record { rows = old ++ seen; ending = complete; steps = s }
    unfolding ahead spend run fresh fill unfilled after_rows
    list-last h = let f : s + 0 ≡ s = omega arith in h.is ∙ rw (append-nil (old ++ seen), f)
