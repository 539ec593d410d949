-- The demands on a day's lines settle the call: the split has one list of lines, a match of a line is settled by its own demands and the four numbers
-- by its outcome, and parts settle the area.
use Rattle.std.specs.Prelude.{◌≡◌, refl, List, [], ℕ, ◌/◌, ◌%◌, ◌^◌, length, get_or, take, drop}
use Rattle.std.proofs.Common.{ap, sym, ◌∙◌, arith, mod-eq_of_lt, take-append-drop}
use Rattle.std.proofs.Math.Nat.{add-mul-mod_self_left, add-mul-div_left, div-eq_of_lt}
use Rattle.syntax.specs.Limits.{row_length}
use Rattle.semantics.specs.Calls.{Call, Return, MatchOutcome}
use Rattle.semantics.specs.Batches.{lines_of, line_call, low, high, outcome_numbers, BatchOutcome, batch_refused, lineless, parts_need}
use Rattle.semantics.specs.BatchDemands.{part, Bits, Tells, matched, not_matched, exhausted, refused, LineDemands, BatchAnswers, BatchDemands}
use Rattle.semantics.proofs.Laws.SettledCalls.{Told, returns-same, match-settles}
use Rattle.semantics.proofs.Laws.Lines.{split-settles}
use Rattle.semantics.proofs.Laws.Parts.{same-by-parts}

-- The four numbers ----------------------------------------------------------------

bits_are : {steps lo hi : ℕ} → Bits steps lo hi → (lo ≡ low steps) × (hi ≡ high steps)
unfolding low high
bits_are {lo = lo} {hi = hi} b = (
  sym (ap (λ (n : ℕ). n % (2 ^ 32)) b.make ∙ add-mul-mod_self_left lo (2 ^ 32) hi ∙ mod-eq_of_lt b.low_fits),
  sym (ap (λ (n : ℕ). n / (2 ^ 32)) b.make ∙ add-mul-div_left lo hi {y = 2 ^ 32} (omega arith) ∙ rw (div-eq_of_lt b.low_fits) (omega arith)),
)

tells-once : {o : MatchOutcome} {xs : List ℕ} → Tells o xs → xs ≡ outcome_numbers o
unfolding outcome_numbers
tells-once (matched b) = let e = bits_are b in rw (e.0, e.1)
tells-once (not_matched b) = let e = bits_are b in rw (e.0, e.1)
tells-once (exhausted b) = let e = bits_are b in rw (e.0, e.1)
tells-once refused = refl

-- Parts and the whole ----------------------------------------------------------------

part-once : (c : Call) (line there xs ys : List ℕ) → LineDemands c line there xs → LineDemands c line there ys → xs ≡ ys
part-once c line there xs ys v w =
    let e = match-settles (line_call c line (take row_length there)) v.match_of_line w.match_of_line v.demands w.demands in
    let rows : take row_length xs ≡ take row_length ys = v.row ∙ ap (λ (x : Return MatchOutcome). x.result_area) e ∙ sym w.row in
    let numbers : drop row_length xs ≡ drop row_length ys = tells-once v.numbers ∙ ap (λ (x : Return MatchOutcome). outcome_numbers x.outcome) e ∙ sym (tells-once w.numbers) in
    sym (take-append-drop row_length xs) ∙ rw (rows, numbers) (take-append-drop row_length ys)

batch-told : (c : Call) (lines : List (List ℕ)) (x y : Return BatchOutcome) → BatchAnswers c lines x → BatchAnswers c lines y → Told x y
unfolding parts_need
batch-told c lines x y v w = (
  v.done ∙ sym w.done,
  same-by-parts (length lines) x.result_area y.result_area (λ i h. part-once c (get_or lines i []) (part i c.result_area) (part i x.result_area) (part i y.result_area) (v.each_line i h) (w.each_line i h)) (v.others ∙ sym w.others),
)

-- demands with the lines that the buffer has
as-split : (c : Call) (x : Return BatchOutcome) → (v : BatchDemands c x) → v.lines ≡ lines_of c.subject
as-split c x v = split-settles c.subject v.lines v.split

pub batch-settles : (c : Call) (x y : Return BatchOutcome) → BatchDemands c x → BatchDemands c y → x ≡ y
batch-settles c x y v w =
    let e : w.lines ≡ v.lines = as-split c y w ∙ sym (as-split c x v) in
    returns-same batch_refused (parts_need v.lines) (lineless c) x y v.demand_1 (rw e at w.demand_1) (λ r groups a. batch-told c v.lines x y (v.answers r groups a) (rw e at (w.answers r groups (rw e a))))
