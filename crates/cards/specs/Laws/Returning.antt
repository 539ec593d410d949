-- What the code answers and leaves is what the calls define, for each way in which they end.
use Rattle.std.specs.Prelude.{◌≡◌, false, List, [], ℕ, ◌+◌, ◌*◌, ◌/◌, ◌≤◌, ◌<◌, Result, Ok, Err, ⊤, get_or, take, drop}
use Rattle.std.proofs.Math.Path.{refl, sym, ap}
use Rattle.std.proofs.Common.{subst, ◌∙◌, arith, length-take, take_at}
use Rattle.std.proofs.Math.Option.{Option, some}
use borrow.Author.Tests.{le-leb, lt-leb}
use Rattle.std.proofs.Math.ListN.{length}
use Rattle.syntax.specs.declared.Refusal.{Refusal}
use Rattle.syntax.specs.declared.Reason.{Reason}
use Rattle.syntax.specs.declared.Reason.TheVariants.{WrittenAreaShort, WrongGroupNumber}
use Rattle.syntax.specs.Limits.{rule_limit, rule_area_need, group_limit, flag_bits}
use Rattle.syntax.specs.Read.{refused}
use Rattle.syntax.specs.Reading.{reading}
use Rattle.syntax.specs.Laws.Names.{names_of-few}
use Rattle.semantics.specs.Calls.{over, cleared}
use Rattle.semantics.proofs.Laws.Areas.{over_nothing}
use Rattle.reader.specs.declared.compiling.Compiled.{Compiled}
use Rattle.reader.specs.Compiles.{Says, Compiles, Stands}
use Rattle.refusals.specs.Fitness.{fitness_of}
use Rattle.card_format.specs.Cards.{Card, written, card_need, untouched, leaving, unfit, fails, card_in, rule_in, write_wrote, write_refused, writes, write_call, read_holds, read_refused, reads, read_scan, read_call, rule_bytes_need}
use Rattle.card_format.specs.CardDemands.{Bytes, card_of, Fitting, Sound}
use Rattle.card_format.proofs.CardDemandsHold.{short-writes, ruled-write, unsound-writes, counted-writes, short-reads, scan-reads, ruled-read, unsound-reads, miscounted-reads, held_reads}
use Rattle.card_records.specs.Walking.{IsCard}
use Rattle.card_format.proofs.Laws.Scanning.{reads-written}
use Rattle.card_format.specs.Places.{text_end}
use Rattle.card_format.proofs.Laws.Written.{written-long, flags-at, low-at, high-at, groups-at, size-at}
use Rattle.card_records.specs.Room.{Writable}
use Rattle.cards.specs.Answers.{Returned, Counted, Counts, Legible}
use Rattle.card_format.proofs.Laws.Ruling.{fitting-faultless, none-fitting, ruled-given}

-- The rule ----------------------------------------------------------------------------------

-- what compiling counts is what reading the rule gives
pub counted : {s : List ℕ} {flags : ℕ} {old new : List ℕ} {r : Result Compiled Refusal} → Compiles false s flags old new r → (k : Compiled) → r ≡ Ok k → Counted s flags k.groups
counted {s} {flags} {old} {new} h k e =
    let z : Stands false s flags new k.entry k.groups = subst (λ (x : Result Compiled Refusal). Says false s flags new x) e h.says in
    record { tree = z.tree; stop = z.stop; reads = z.reads; few = omega (arith, z.many, names_of-few s flags) }

pub is-unfit : (f : Result ⊤ Reason) (x : Option Reason) → fitness_of f ≡ x → (why : Reason) → f ≡ Err why → x ≡ some why
unfolding fitness_of
is-unfit f x e why g = sym e ∙ rw g

pub is-fit : (rule : List ℕ) (flags budget : ℕ) (rule_area : List ℕ) (f : Result ⊤ Reason) → fitness_of f ≡ unfit (length rule) flags budget (length rule_area) → (t : ⊤) → f ≡ Ok t → Fitting rule flags budget rule_area
unfolding fitness_of
is-fit rule flags budget rule_area f e t g = none-fitting rule flags budget rule_area (sym e ∙ rw g)

sound-counted : {rule : List ℕ} {flags budget : ℕ} {rule_area : List ℕ} {groups : ℕ} → Fitting rule flags budget rule_area → Counted rule flags groups → Sound rule flags budget rule_area groups
sound-counted {rule} {flags} {budget} {rule_area} f z = record { faultless = fitting-faultless rule flags budget rule_area f; tree = z.tree; stop = z.stop; reads = z.reads }

-- Writing -------------------------------------------------------------------------------------

module _ (rule : List ℕ) (flags budget : ℕ) (rule_area area : List ℕ) where
  pub write_short : length area < card_need → Returned (write_call rule flags budget rule_area area) (write_refused 0 WrittenAreaShort) rule_area area
  unfolding untouched
  write_short l = rw (short-writes rule flags budget rule_area area l) (record { outcome_is = refl; rule_area_is = refl; area_is = refl })

  module _ (room : card_need ≤ length area) where
    pub write-unfit : (why : Reason) → unfit (length rule) flags budget (length rule_area) ≡ some why → Returned (write_call rule flags budget rule_area area) (write_refused 0 why) rule_area area
    unfolding untouched
    write-unfit why e =
        rw (ruled-write rule flags budget rule_area area room ∙ ruled-given rule flags budget rule_area write_refused area (writes rule flags budget rule_area area) e)
        (record { outcome_is = refl; rule_area_is = refl; area_is = refl })

    module _ (fits : Fitting rule flags budget rule_area) where
      pub write_unsound : (place : ℕ) (why : Reason) → reading rule flags ≡ refused place why → (after : List ℕ) → after ≡ cleared rule_area_need rule_area → Returned (write_call rule flags budget rule_area area) (write_refused place why) after area
      unfolding leaving
      write_unsound place why e after c = rw (unsound-writes rule flags budget rule_area area room place why fits e) (record { outcome_is = refl; rule_area_is = c; area_is = sym (over_nothing area) })

      pub write_done : (groups : ℕ) → Counted rule flags groups → (n : ℕ) (after card : List ℕ) → n ≡ length (written (card_of rule flags budget groups)) → after ≡ cleared rule_area_need rule_area → card ≡ over (written (card_of rule flags budget groups)) area
          → Returned (write_call rule flags budget rule_area area) (write_wrote n) after card
      unfolding leaving writes
      write_done groups z n after card e c w = rw (counted-writes rule flags budget rule_area area room groups (sound-counted fits z)) (record { outcome_is = ap write_wrote e; rule_area_is = c; area_is = w })

      -- a card has room for what fits
      pub writable : (groups : ℕ) → Counted rule flags groups → Writable rule flags budget groups
      unfolding flag_bits group_limit
      writable groups z = record { rule_fits = fits.rule_fits; flags_fit = omega (arith, fits.flags_fit); budget_fits = omega (arith, fits.budget_fits); groups_fit = omega (arith, z.few) }

-- Reading -------------------------------------------------------------------------------------

module _ (card rule_area area : List ℕ) where
  pub read_short : length area < rule_bytes_need → Returned (read_call card rule_area area) (read_refused 0 WrittenAreaShort) rule_area area
  unfolding untouched
  read_short l = rw (short-reads card rule_area area l) (record { outcome_is = refl; rule_area_is = refl; area_is = refl })

  module _ (room : rule_bytes_need ≤ length area) where
    pub read-fails : (why : Reason) → card_in card ≡ fails why → Returned (read_call card rule_area area) (read_refused 0 why) rule_area area
    unfolding untouched read_scan
    read-fails why e = rw (scan-reads card rule_area area room (fails why) e) (record { outcome_is = refl; rule_area_is = refl; area_is = refl })

    module _ (k : Card) (is : card ≡ written k) where
      pub read-unfit : (why : Reason) → unfit (length k.rule) k.flags k.budget (length rule_area) ≡ some why → Returned (read_call card rule_area area) (read_refused 0 why) rule_area area
      unfolding untouched
      read-unfit why e =
          rw (ruled-read card rule_area area room k is ∙ ruled-given k.rule k.flags k.budget rule_area read_refused area (reads k rule_area area) e)
          (record { outcome_is = refl; rule_area_is = refl; area_is = refl })

      module _ (fits : Fitting k.rule k.flags k.budget rule_area) (after : List ℕ) (clear : after ≡ cleared rule_area_need rule_area) where
        pub read_unsound : (place : ℕ) (why : Reason) → reading k.rule k.flags ≡ refused place why → Returned (read_call card rule_area area) (read_refused place why) after area
        unfolding leaving
        read_unsound place why e = rw (unsound-reads card rule_area area room k is place why fits e) (record { outcome_is = refl; rule_area_is = clear; area_is = sym (over_nothing area) })

        pub read_miscounted : (groups : ℕ) → Counted k.rule k.flags groups → ¬ (groups ≡ k.groups) → Returned (read_call card rule_area area) (read_refused 0 WrongGroupNumber) after area
        unfolding leaving
        read_miscounted groups z h = rw (miscounted-reads card rule_area area room k is groups (sound-counted fits z) h) (record { outcome_is = refl; rule_area_is = clear; area_is = sym (over_nothing area) })

        pub read_held : Counted k.rule k.flags k.groups → (bytes : List ℕ) → bytes ≡ over k.rule area → Returned (read_call card rule_area area) (read_holds (length k.rule) k.flags k.budget k.groups) after bytes
        unfolding leaving
        read_held z bytes e = rw (held_reads card rule_area area room k is (sound-counted fits z)) (record { outcome_is = refl; rule_area_is = clear; area_is = e })

-- of what is no card no rule is told
pub found_none : (card : List ℕ) (why : Reason) (room : ℕ) → card_in card ≡ fails why → rule_in (card_in card) room ≡ []
unfolding rule_in
found_none card why room e = rw e

pub nothing-told : (rule area : List ℕ) → rule ≡ [] → (0 ≡ length rule) × (area ≡ over rule area)
nothing-told rule area e = rw e (refl, sym (over_nothing area))

-- what has been found to be a card has its numbers where they are looked for
module _ {card : List ℕ} {size : ℕ} (z : IsCard card size) (bytes : Bytes card) where
  found-is : card ≡ written z.said
  found-is = reads-written bytes z.said z.is

  pub found-long : 5 ≤ length card
  unfolding text_end
  found-long = omega (arith, ap length found-is, written-long z.said)

  -- where the rule's bytes end, and how many there can be
  pub found-text : text_end size ≤ length card
  found-text =
      let e : text_end (length z.said.rule) ≡ text_end size = ap text_end z.sized in
      omega (arith, ap length found-is, written-long z.said)

  pub found-size : size < 65536
  found-size =
      let k = z.said in
      let at = text_end (length k.rule) + 2 in
      let high : get_or card at 0 ≡ length k.rule / 256 = ap (λ (s : List ℕ). get_or s at 0) found-is ∙ size-at k 2 in
      omega (arith, z.sized, high, bytes at)

  -- the rule that it says, where there is room for it
  module _ (area : List ℕ) where
    pub found-rule : (after : List ℕ) → size ≤ length area → ((k : Card) → card ≡ written k → length k.rule ≡ size → after ≡ over k.rule area)
        → (size ≡ length (rule_in (card_in card) (length area))) × (after ≡ over (rule_in (card_in card) (length area)) area)
    unfolding rule_in
    found-rule after room gathers =
        rw (z.is, le-leb (length z.said.rule) (length area) (omega (arith, z.sized))) (sym z.sized, gathers z.said found-is z.sized)

    pub found-crowded : length area < size → rule_in (card_in card) (length area) ≡ []
    unfolding rule_in
    found-crowded l = rw (z.is, lt-leb (length z.said.rule) (length area) (omega (arith, z.sized)))

  pub found-card : (budget : ℕ) → budget ≡ get_or card 2 0 + 256 * get_or card 3 0 → card ≡ written (card_of z.said.rule (get_or card 1 0) budget (get_or card 4 0))
  found-card budget e =
      let k = z.said in
      let at : (i : ℕ) → get_or card i 0 ≡ get_or (written k) i 0 = λ i. ap (λ (s : List ℕ). get_or s i 0) found-is in
      let f : get_or card 1 0 ≡ k.flags = at 1 ∙ flags-at k in
      let b : budget ≡ k.budget = omega (arith, at 2, at 3, low-at k, high-at k) in
      let g : get_or card 4 0 ≡ k.groups = at 4 ∙ groups-at k in
      found-is ∙ ap written (same-card k f b g)
    where
      same-card : (k : Card) {flags budget groups : ℕ} → flags ≡ k.flags → budget ≡ k.budget → groups ≡ k.groups → k ≡ card_of k.rule flags budget groups
      same-card k f b g = rw (f, b, g)

-- the rule of a card that can be read
module _ {card : List ℕ} {size flags budget groups : ℕ} {rule_area : List ℕ} (z : Legible card size flags budget groups rule_area) where
  pub size_fits : size ≤ rule_limit
  size_fits = omega (arith, z.sized, z.fits.rule_fits)

  pub text-inside : text_end size ≤ length card
  text-inside =
      let k = card_of z.rule flags budget groups in
      let e : text_end (length z.rule) ≡ text_end size = ap text_end z.sized in
      omega (arith, ap length z.is, written-long k)

  -- what is gathered is the rule, with what stood behind it
  module _ (area after : List ℕ) (gathers : (k : Card) → card ≡ written k → length k.rule ≡ size → after ≡ over k.rule area) where
    pub gathered : after ≡ over z.rule area
    gathered = gathers (card_of z.rule flags budget groups) z.is z.sized

    pub gathered-rule : take size after ≡ z.rule
    unfolding over
    gathered-rule = rw gathered (take_at z.rule (drop (length z.rule) area) size z.sized)

    pub gathered-size : length (take size after) ≡ size
    gathered-size = ap length gathered-rule ∙ z.sized

    pub gathered-room : size ≤ length after
    gathered-room = omega (arith, gathered-size, length-take size after)

    -- and what is counted of it is counted of the rule
    pub gathered-counts : (r x : Result ℕ Refusal) → Counts (take size after) flags r → r ≡ x → Counts z.rule flags x
    gathered-counts r x h e = subst (Counts z.rule flags) e (subst (λ (s : List ℕ). Counts s flags r) gathered-rule h)
