-- The rule and the line of docs/TOUR.md by the definitions alone, computed by the checker: the tree that the rule's bytes give, the events of its walk from
-- start 0, what a match answers, and the gateway's line. docs/write-tour takes them from here, so that the page shows what is proved.
use Rattle.std.specs.Prelude.{◌≡◌, refl, false, List, [], ◌∷◌, ◌++◌, ℕ, ◌-◌, length, replicate}
use Rattle.charset.specs.declared.Named.TheVariants.{Digit}
use Rattle.syntax.specs.declared.Assertion.TheVariants.{TextStart, LastLineEnd}
use Rattle.syntax.specs.declared.Greed.TheVariants.{Greedy}
use Rattle.syntax.specs.declared.Most.TheVariants.{AtMost, Unlimited}
use Rattle.syntax.specs.Limits.{unset, spans_length}
use Rattle.syntax.specs.Read.{sound, bytes}
use Rattle.syntax.specs.Sets.{single, named, only}
use Rattle.syntax.specs.Tree.{byte_in, assert, Rule, empty, item, seq, alt, group, repeat, one}
use Rattle.syntax.specs.Reading.{reading}
use Rattle.semantics.specs.States.{Choice, branch, again, go_on, State}
use Rattle.semantics.specs.Walk.{step, miss, end, Trace, trace}
use Rattle.semantics.specs.Answers.{matched, answer}
use Rattle.semantics.specs.Computing.{computing_calls}
use Rattle.text.specs.Lines.{newline}
use Rattle.text.specs.Numbers.{decimal_within, decimal}
use Rattle.gateway_text.specs.Lines.{line as line_of, span, spans, matched_line, outcome_line}
use Rattle.gateway_answers.specs.Limits.{line_limit, gateway_budget}
use Rattle.gateway_answers.specs.Answers.{answer_line}

infixl 60 ◌⨾◌
unfoldable pub rule : List ℕ
rule = bytes "^(?:(\\d{1,3},\\d{3})|(\\d+,\\d+)) L$"

unfoldable pub line : List ℕ
line = bytes "1,500 L"

-- The tree --------------------------------------------------------------------

-- one part behind another
unfoldable pub ◌⨾◌ : Rule → Rule → Rule
a ⨾ b = seq a b

-- a digit, and one byte, whose item stands at a place
unfoldable pub digit : ℕ → Rule
digit place = item place (byte_in false (only (named Digit)))

unfoldable pub byte : ℕ → ℕ → Rule
byte place b = item place (byte_in false (only (single b)))

unfoldable pub thousands : Rule
thousands = empty ⨾ repeat 7 1 (AtMost 3) Greedy (digit 5) ⨾ byte 12 44 ⨾ repeat 15 3 (AtMost 3) Greedy (digit 13)

unfoldable pub decimals : Rule
decimals = empty ⨾ repeat 23 1 Unlimited Greedy (digit 21) ⨾ byte 24 44 ⨾ repeat 27 1 Unlimited Greedy (digit 25)

unfoldable pub amount : Rule
amount = alt (one (empty ⨾ group 1 thousands)) 19 (empty ⨾ group 2 decimals)

unfoldable pub tree : Rule
tree = empty ⨾ item 0 (assert TextStart) ⨾ amount ⨾ byte 30 32 ⨾ byte 31 76 ⨾ item 32 (assert LastLineEnd)

-- The walk --------------------------------------------------------------------

-- the rule's end at a position, with the spans of its groups and the choices that led there
unfoldable pub ending : ℕ → List ℕ → List Choice → State
ending at set path = record { at = at; spans = set ++ replicate (spans_length - length set) unset; path = path }

unfoldable pub first_end : State
first_end = ending 7 (0 ∷ 5 ∷ []) (branch 0 ∷ go_on Greedy ∷ [])

unfoldable pub second_end : State
second_end = ending 7 (unset ∷ unset ∷ 0 ∷ 5 ∷ []) (branch 1 ∷ go_on Greedy ∷ again Greedy ∷ again Greedy ∷ go_on Greedy ∷ [])

-- the events, the machine's moves divided by lines
unfoldable pub events : Trace
events =
    step
    ∷ step
    ∷ step
    ∷ step ∷ step ∷ step ∷ miss 5 1
    ∷ step
    ∷ step ∷ step ∷ step ∷ step ∷ step ∷ step ∷ step
    ∷ step
    ∷ step
    ∷ step
    ∷ step
    ∷ end first_end
    ∷ step
    ∷ step
    ∷ step ∷ step ∷ step ∷ miss 21 1
    ∷ step
    ∷ step ∷ step ∷ step ∷ step ∷ step ∷ step ∷ step ∷ miss 25 5
    ∷ step
    ∷ step
    ∷ step
    ∷ step
    ∷ end second_end
    ∷ step
    ∷ miss 30 4
    ∷ step
    ∷ miss 30 3
    ∷ []

-- What is computed --------------------------------------------------------------

unfoldable pub computing_tour : Unit {0}
unfolding computing_calls rule line ◌⨾◌ digit byte thousands decimals amount tree ending first_end second_end events newline decimal_within decimal line_of span spans matched_line outcome_line line_limit gateway_budget answer_line
computing_tour = tt

pub tree-read : reading rule 0 ≡ sound (tree, 2) 33
unfolding computing_tour
tree-read = refl

pub events-walked : trace line tree 0 ≡ events
unfolding computing_tour
events-walked = refl

pub match-answered : answer line tree 1000 ≡ record { outcome = matched 0 first_end; steps = 20 }
unfolding computing_tour
match-answered = refl

pub line-answered : answer_line (tree, 2) line ≡ bytes "M 0 7 0-5 -\n"
unfolding computing_tour
line-answered = refl
