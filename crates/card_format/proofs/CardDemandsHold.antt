-- The demands hold of both calls, for all inputs. Each call ends in one of a few ways, and each way is told by what is handed in.
-- docs/REFERENCE.md, 17.2, 17.3
use Rattle.std.specs.Prelude.{◌≡◌, List, [], ◌⊎◌, ℕ, ◌≤◌, ◌<◌, length, replicate}
use Rattle.std.proofs.Math.Path.{refl}
use Rattle.std.proofs.Common.{sym, ap, subst, ◌∙◌, inl, inr, arith, lt-ltb, le-ltb, eq-eqb, ne_eqb}
use Rattle.syntax.specs.declared.Reason.{Reason}
use Rattle.syntax.specs.declared.Reason.TheVariants.{WrittenAreaShort, WrongGroupNumber}
use Rattle.syntax.specs.Limits.{rule_area_need}
use Rattle.syntax.specs.Read.{refused}
use Rattle.syntax.specs.Reading.{reading}
use Rattle.semantics.specs.Demands.{Written}
use Rattle.semantics.proofs.Laws.Areas.{over_nothing, written as written-first, zeroed}
use Rattle.semantics.proofs.Laws.Cases.{clash, le-or, same_or}
use Rattle.card_format.specs.Cards.{Card, written, card_need, rule_bytes_need, CardReturn, untouched, leaving, ruled, Scan, holds, fails, card_in, WriteOutcome, write_wrote, write_refused, writes, write_call, ReadOutcome, read_holds, read_refused, reads, read_scan, read_call}
use Rattle.card_format.specs.CardDemands.{Bytes, CardFault, RuleFault, Faultless, Fitting, FirstFault, Sound, itself, its_own, card_of, WriteRefuses, area_short, unsound, WriteDemands, ReadRefuses, no_card, miscounted, Accepts, ReadDemands}
use Rattle.card_format.proofs.Laws.Scanning.{reads-back, fault-fails, Verdict, is_card, is_faulty, verdict}
use Rattle.card_format.proofs.Laws.Written.{written-fits}
use Rattle.card_format.proofs.Laws.Ruling.{fitting-faultless, faultless-fitting, Ruling, unread, unsound as refusedly, counted, ruling, ruled-unread, ruled-unsound, ruled-counted}

-- Writing ------------------------------------------------------------------------------

module _ (rule : List ℕ) (flags budget : ℕ) (rule_area area : List ℕ) where
  abbrev wrote : CardReturn WriteOutcome
  wrote = write_call rule flags budget rule_area area

  -- the ways in which it ends
  data WriteEnds : CardReturn WriteOutcome → Type 0 where
    write_short : length area < card_need → WriteEnds (untouched (write_refused 0 WrittenAreaShort) rule_area area)
    write_unread : card_need ≤ length area → (why : Reason) → FirstFault rule flags budget rule_area why → WriteEnds (untouched (write_refused 0 why) rule_area area)
    write_unsound : card_need ≤ length area → (place : ℕ) (why : Reason) → Fitting rule flags budget rule_area → reading rule flags ≡ refused place why → WriteEnds (leaving (write_refused place why) [] rule_area area)
    write_written : card_need ≤ length area → (groups : ℕ) → Sound rule flags budget rule_area groups → WriteEnds (writes rule flags budget rule_area area groups)

  pub short-writes : length area < card_need → wrote ≡ untouched (write_refused 0 WrittenAreaShort) rule_area area
  unfolding write_call
  short-writes l = rw (lt-ltb (length area) card_need l)

  module _ (room : card_need ≤ length area) where
    pub ruled-write : wrote ≡ ruled write_refused rule_area area (writes rule flags budget rule_area area) rule flags budget
    unfolding write_call
    ruled-write = rw (le-ltb (length area) card_need room)

    unread-writes : {why : Reason} → FirstFault rule flags budget rule_area why → wrote ≡ untouched (write_refused 0 why) rule_area area
    unread-writes f = ruled-write ∙ ruled-unread rule flags budget rule_area write_refused area (writes rule flags budget rule_area area) f

    pub unsound-writes : (place : ℕ) (why : Reason) → Fitting rule flags budget rule_area → reading rule flags ≡ refused place why → wrote ≡ leaving (write_refused place why) [] rule_area area
    unsound-writes place why f e = ruled-write ∙ ruled-unsound rule flags budget rule_area write_refused area (writes rule flags budget rule_area area) place why f e

    pub counted-writes : (groups : ℕ) → Sound rule flags budget rule_area groups → wrote ≡ writes rule flags budget rule_area area groups
    counted-writes groups z = ruled-write ∙ ruled-counted rule flags budget rule_area write_refused area (writes rule flags budget rule_area area) groups z

    by-ruling : Ruling rule flags budget rule_area → WriteEnds wrote
    by-ruling (unread why f) = subst WriteEnds (sym (unread-writes f)) (write_unread room why f)
    by-ruling (refusedly place why f e) = subst WriteEnds (sym (unsound-writes place why f e)) (write_unsound room place why f e)
    by-ruling (counted groups z) = subst WriteEnds (sym (counted-writes groups z)) (write_written room groups z)

  write-ends : WriteEnds wrote
  write-ends = elim (le-or card_need (length area)) [
    | inl room ↦ by-ruling room (ruling rule flags budget rule_area)
    | inr l ↦ subst WriteEnds (sym (short-writes l)) (write_short l)
  ]

  -- a refusal is one that is named, and the other way round
  refusal-named : {x : CardReturn WriteOutcome} → WriteEnds x → (place : ℕ) (why : Reason) → x.outcome ≡ write_refused place why → WriteRefuses rule flags budget rule_area area place why
  unfolding untouched leaving writes
  refusal-named (write_short l) place why e = let p : 0 ≡ place = cc in let q : WrittenAreaShort ≡ why = cc in rw (← p, ← q) (area_short l)
  refusal-named (write_unread room why' f) place why e = let p : 0 ≡ place = cc in let q : why' ≡ why = cc in rw (← p, ← q) (unsound room (itself f))
  refusal-named (write_unsound room place' why' f r) place why e =
      let p : place' ≡ place = cc in let q : why' ≡ why = cc in rw (← p, ← q) (unsound room (its_own (fitting-faultless rule flags budget rule_area f) r))
  refusal-named (write_written room groups z) place why e = absurd (clash (cc))

  named-refused : {place : ℕ} {why : Reason} → WriteRefuses rule flags budget rule_area area place why → wrote.outcome ≡ write_refused place why
  unfolding untouched leaving
  named-refused (area_short l) = rw (short-writes l)
  named-refused (unsound room (itself f)) = rw (unread-writes room f)
  named-refused (unsound room (its_own {place} {why} f e)) = rw (unsound-writes room place why (faultless-fitting rule flags budget rule_area f) e)

  write-answers : {x : CardReturn WriteOutcome} → WriteEnds x → ((card_need ≤ length area) × (groups : ℕ) × Sound rule flags budget rule_area groups) ⊎ ((place : ℕ) × (why : Reason) × WriteRefuses rule flags budget rule_area area place why)
  write-answers (write_short l) = inr (0, WrittenAreaShort, area_short l)
  write-answers (write_unread room why f) = inr (0, why, unsound room (itself f))
  write-answers (write_unsound room place why f r) = inr (place, why, unsound room (its_own (fitting-faultless rule flags budget rule_area f) r))
  write-answers (write_written room groups z) = inl (room, groups, z)

  write_kept : {x : CardReturn WriteOutcome} → WriteEnds x → (place : ℕ) (why : Reason) → x.outcome ≡ write_refused place why → x.area ≡ area
  unfolding untouched leaving writes
  write_kept (write_short l) place why e = refl
  write_kept (write_unread room why' f) place why e = refl
  write_kept (write_unsound room place' why' f r) place why e = over_nothing area
  write_kept (write_written room groups z) place why e = absurd (clash (cc))

  write-rule-kept : {x : CardReturn WriteOutcome} → WriteEnds x → (length area < card_need) ⊎ ((why : Reason) × RuleFault rule flags budget rule_area why) → x.rule_area ≡ rule_area
  unfolding untouched
  write-rule-kept (write_short l) h = refl
  write-rule-kept (write_unread room why f) h = refl
  write-rule-kept (write_unsound room place why f e) (inl l) = absurd (omega arith)
  write-rule-kept (write_unsound room place why f e) (inr z) = absurd (fitting-faultless rule flags budget rule_area f z.0 z.1)
  write-rule-kept (write_written room groups z) (inl l) = absurd (omega arith)
  write-rule-kept (write_written room groups z) (inr y) = absurd (z.faultless y.0 y.1)

  write-rule-zeroed : {x : CardReturn WriteOutcome} → WriteEnds x → card_need ≤ length area → Faultless rule flags budget rule_area → Written (replicate rule_area_need 0) rule_area x.rule_area
  unfolding leaving writes
  write-rule-zeroed (write_short l) room h = absurd (omega arith)
  write-rule-zeroed (write_unread _ why f) room h = absurd (h why f.fault)
  write-rule-zeroed (write_unsound _ place why f e) room h = zeroed rule_area_need rule_area f.area_fits
  write-rule-zeroed (write_written _ groups z) room h = zeroed rule_area_need rule_area (faultless-fitting rule flags budget rule_area h).area_fits

  writes-card : card_need ≤ length area → (groups : ℕ) → Sound rule flags budget rule_area groups
      → (wrote.outcome ≡ write_wrote (length (written (card_of rule flags budget groups)))) × Written (written (card_of rule flags budget groups)) area wrote.area
  unfolding leaving writes
  writes-card room groups z =
      let k = card_of rule flags budget groups in
      let fits = written-fits k (faultless-fitting rule flags budget rule_area z.faultless).rule_fits in
      rw (counted-writes room groups z) (refl, written-first (written k) area (omega arith))

  pub write-meets-demands : WriteDemands rule flags budget rule_area area wrote
  write-meets-demands = record {
    answers_or_refuses = write-answers write-ends;
    refused_exactly = λ place why. (refusal-named write-ends place why, named-refused);
    writes = writes-card;
    area_unchanged = write_kept write-ends;
    rule_area_unchanged = write-rule-kept write-ends;
    rule_area_zeroed = write-rule-zeroed write-ends;
  }

-- Reading --------------------------------------------------------------------------------

-- bytes are the card of one rule at most, and none if they have a fault
pub one-card : {s : List ℕ} {k l : Card} → s ≡ written k → s ≡ written l → k ≡ l
one-card {s} {k} {l} e f = let z : holds k ≡ holds l = sym (reads-back k) ∙ ap card_in (sym e ∙ f) ∙ reads-back l in cc

pub no-fault : {s : List ℕ} (k : Card) {why : Reason} → s ≡ written k → ¬ CardFault s why
no-fault {s} k {why} e f = let z : holds k ≡ fails why = sym (reads-back k) ∙ ap card_in (sym e) ∙ fault-fails f in clash (cc)

module _ (card rule_area area : List ℕ) where
  abbrev read : CardReturn ReadOutcome
  read = read_call card rule_area area

  abbrev Fits : Card → Type 0
  Fits k = Fitting k.rule k.flags k.budget rule_area

  -- the ways in which it ends
  data ReadEnds : CardReturn ReadOutcome → Type 0 where
    read_short : length area < rule_bytes_need → ReadEnds (untouched (read_refused 0 WrittenAreaShort) rule_area area)
    read_faulty : rule_bytes_need ≤ length area → (why : Reason) → CardFault card why → ReadEnds (untouched (read_refused 0 why) rule_area area)
    read_unread : rule_bytes_need ≤ length area → (k : Card) → card ≡ written k → (why : Reason) → FirstFault k.rule k.flags k.budget rule_area why → ReadEnds (untouched (read_refused 0 why) rule_area area)
    read_unsound : rule_bytes_need ≤ length area → (k : Card) → card ≡ written k → (place : ℕ) (why : Reason) → Fits k → reading k.rule k.flags ≡ refused place why → ReadEnds (leaving (read_refused place why) [] rule_area area)
    read_miscounted : rule_bytes_need ≤ length area → (k : Card) → card ≡ written k → (groups : ℕ) → Sound k.rule k.flags k.budget rule_area groups → ¬ (groups ≡ k.groups) → ReadEnds (leaving (read_refused 0 WrongGroupNumber) [] rule_area area)
    read_held : (k : Card) → Accepts card rule_area area k → ReadEnds (leaving (read_holds (length k.rule) k.flags k.budget k.groups) k.rule rule_area area)

  pub short-reads : length area < rule_bytes_need → read ≡ untouched (read_refused 0 WrittenAreaShort) rule_area area
  unfolding read_call
  short-reads l = rw (lt-ltb (length area) rule_bytes_need l)

  module _ (room : rule_bytes_need ≤ length area) where
    pub scan-reads : (x : Scan) → card_in card ≡ x → read ≡ read_scan x rule_area area
    unfolding read_call
    scan-reads x e = rw (le-ltb (length area) rule_bytes_need room, e)

    faulty-reads : {why : Reason} → CardFault card why → read ≡ untouched (read_refused 0 why) rule_area area
    unfolding read_scan
    faulty-reads {why} f = scan-reads (fails why) (fault-fails f)

    module _ (k : Card) (is : card ≡ written k) where
      pub ruled-read : read ≡ ruled read_refused rule_area area (reads k rule_area area) k.rule k.flags k.budget
      unfolding read_scan
      ruled-read = scan-reads (holds k) (ap card_in is ∙ reads-back k)

      unread-reads : {why : Reason} → FirstFault k.rule k.flags k.budget rule_area why → read ≡ untouched (read_refused 0 why) rule_area area
      unread-reads f = ruled-read ∙ ruled-unread k.rule k.flags k.budget rule_area read_refused area (reads k rule_area area) f

      pub unsound-reads : (place : ℕ) (why : Reason) → Fits k → reading k.rule k.flags ≡ refused place why → read ≡ leaving (read_refused place why) [] rule_area area
      unsound-reads place why f e = ruled-read ∙ ruled-unsound k.rule k.flags k.budget rule_area read_refused area (reads k rule_area area) place why f e

      counted-reads : (groups : ℕ) → Sound k.rule k.flags k.budget rule_area groups → read ≡ reads k rule_area area groups
      counted-reads groups z = ruled-read ∙ ruled-counted k.rule k.flags k.budget rule_area read_refused area (reads k rule_area area) groups z

      pub miscounted-reads : (groups : ℕ) → Sound k.rule k.flags k.budget rule_area groups → ¬ (groups ≡ k.groups) → read ≡ leaving (read_refused 0 WrongGroupNumber) [] rule_area area
      unfolding reads
      miscounted-reads groups z h = counted-reads groups z ∙ rw (ne_eqb groups k.groups h)

      pub held_reads : Sound k.rule k.flags k.budget rule_area k.groups → read ≡ leaving (read_holds (length k.rule) k.flags k.budget k.groups) k.rule rule_area area
      unfolding reads
      held_reads z = counted-reads k.groups z ∙ rw (eq-eqb k.groups k.groups refl)

      by-read-ruling : Ruling k.rule k.flags k.budget rule_area → ReadEnds read
      by-read-ruling (unread why f) = subst ReadEnds (sym (unread-reads f)) (read_unread room k is why f)
      by-read-ruling (refusedly place why f e) = subst ReadEnds (sym (unsound-reads place why f e)) (read_unsound room k is place why f e)
      by-read-ruling (counted groups z) = elim (same_or groups k.groups) [
        | inr h ↦ subst ReadEnds (sym (miscounted-reads groups z h)) (read_miscounted room k is groups z h)
        | inl e ↦ (
            let held : Sound k.rule k.flags k.budget rule_area k.groups = rw e at z in
            subst ReadEnds (sym (held_reads held)) (read_held k (record { area_long = room; is_written = is; is_sound = held })))
      ]

  by-verdict : rule_bytes_need ≤ length area → {x : Scan} → Verdict card x → ReadEnds read
  by-verdict room (is_card k e) = by-read-ruling room k e (ruling k.rule k.flags k.budget rule_area)
  by-verdict room (is_faulty {why} f) = subst ReadEnds (sym (faulty-reads room f)) (read_faulty room why f)

  module _ (bytes : Bytes card) where
    read-ends : ReadEnds read
    read-ends = elim (le-or rule_bytes_need (length area)) [
      | inl room ↦ by-verdict room (verdict bytes)
      | inr l ↦ subst ReadEnds (sym (short-reads l)) (read_short l)
    ]

  -- a refusal is one that is named, and the other way round
  read_named : {x : CardReturn ReadOutcome} → ReadEnds x → (place : ℕ) (why : Reason) → x.outcome ≡ read_refused place why → ReadRefuses card rule_area area place why
  unfolding untouched leaving
  read_named (read_short l) place why e = let p : 0 ≡ place = cc in let q : WrittenAreaShort ≡ why = cc in rw (← p, ← q) (area_short l)
  read_named (read_faulty room why' f) place why e = let p : 0 ≡ place = cc in let q : why' ≡ why = cc in rw (← p, ← q) (no_card room f)
  read_named (read_unread room k is why' f) place why e = let p : 0 ≡ place = cc in let q : why' ≡ why = cc in rw (← p, ← q) (unsound room k is (itself f))
  read_named (read_unsound room k is place' why' f r) place why e =
      let p : place' ≡ place = cc in let q : why' ≡ why = cc in rw (← p, ← q) (unsound room k is (its_own (fitting-faultless k.rule k.flags k.budget rule_area f) r))
  read_named (read_miscounted room k is groups z h) place why e = let p : 0 ≡ place = cc in let q : WrongGroupNumber ≡ why = cc in rw (← p, ← q) (miscounted room k is groups z h)
  read_named (read_held k a) place why e = absurd (clash (cc))

  named-read : {place : ℕ} {why : Reason} → ReadRefuses card rule_area area place why → read.outcome ≡ read_refused place why
  unfolding untouched leaving
  named-read (area_short l) = rw (short-reads l)
  named-read (no_card room f) = rw (faulty-reads room f)
  named-read (unsound room k is (itself f)) = rw (unread-reads room k is f)
  named-read (unsound room k is (its_own {place} {why} f e)) = rw (unsound-reads room k is place why (faultless-fitting k.rule k.flags k.budget rule_area f) e)
  named-read (miscounted room k is groups z h) = rw (miscounted-reads room k is groups z h)

  read-answers : {x : CardReturn ReadOutcome} → ReadEnds x → ((k : Card) × Accepts card rule_area area k) ⊎ ((place : ℕ) × (why : Reason) × ReadRefuses card rule_area area place why)
  read-answers (read_short l) = inr (0, WrittenAreaShort, area_short l)
  read-answers (read_faulty room why f) = inr (0, why, no_card room f)
  read-answers (read_unread room k is why f) = inr (0, why, unsound room k is (itself f))
  read-answers (read_unsound room k is place why f r) = inr (place, why, unsound room k is (its_own (fitting-faultless k.rule k.flags k.budget rule_area f) r))
  read-answers (read_miscounted room k is groups z h) = inr (0, WrongGroupNumber, miscounted room k is groups z h)
  read-answers (read_held k a) = inl (k, a)

  read_kept : {x : CardReturn ReadOutcome} → ReadEnds x → (place : ℕ) (why : Reason) → x.outcome ≡ read_refused place why → x.area ≡ area
  unfolding untouched leaving
  read_kept (read_short l) place why e = refl
  read_kept (read_faulty room why' f) place why e = refl
  read_kept (read_unread room k is why' f) place why e = refl
  read_kept (read_unsound room k is place' why' f r) place why e = over_nothing area
  read_kept (read_miscounted room k is groups z h) place why e = over_nothing area
  read_kept (read_held k a) place why e = absurd (clash (cc))

  abbrev Untouching : Type 0
  Untouching = (length area < rule_bytes_need) ⊎ (((why : Reason) × CardFault card why) ⊎ ((k : Card) × (why : Reason) × (card ≡ written k) × RuleFault k.rule k.flags k.budget rule_area why))

  -- none of these is there where the rule was read
  not-untouching : rule_bytes_need ≤ length area → (k : Card) → card ≡ written k → Faultless k.rule k.flags k.budget rule_area → ¬ Untouching
  not-untouching room k is f (inl l) = omega arith
  not-untouching room k is f (inr (inl z)) = no-fault k is z.1
  not-untouching room k is f (inr (inr z)) = let e : z.0 ≡ k = one-card z.2 is in f z.1 (rw e at z.3)

  read-rule-kept : {x : CardReturn ReadOutcome} → ReadEnds x → Untouching → x.rule_area ≡ rule_area
  unfolding untouched
  read-rule-kept (read_short l) h = refl
  read-rule-kept (read_faulty room why f) h = refl
  read-rule-kept (read_unread room k is why f) h = refl
  read-rule-kept (read_unsound room k is place why f r) h = absurd (not-untouching room k is (fitting-faultless k.rule k.flags k.budget rule_area f) h)
  read-rule-kept (read_miscounted room k is groups z m) h = absurd (not-untouching room k is z.faultless h)
  read-rule-kept (read_held k a) h = absurd (not-untouching a.area_long k a.is_written a.is_sound.faultless h)

  read-rule-zeroed : {x : CardReturn ReadOutcome} → ReadEnds x → rule_bytes_need ≤ length area → (k : Card) → card ≡ written k → Faultless k.rule k.flags k.budget rule_area → Written (replicate rule_area_need 0) rule_area x.rule_area
  unfolding leaving
  read-rule-zeroed (read_short l) room k is f = absurd (omega arith)
  read-rule-zeroed (read_faulty _ why g) room k is f = absurd (no-fault k is g)
  read-rule-zeroed (read_unread _ l at why g) room k is f = let e : l ≡ k = one-card at is in absurd (f why (rw e at g.fault))
  read-rule-zeroed (read_unsound _ l at place why g r) room k is f = zeroed rule_area_need rule_area g.area_fits
  read-rule-zeroed (read_miscounted _ l at groups z m) room k is f = zeroed rule_area_need rule_area (faultless-fitting k.rule k.flags k.budget rule_area f).area_fits
  read-rule-zeroed (read_held l a) room k is f = zeroed rule_area_need rule_area (faultless-fitting k.rule k.flags k.budget rule_area f).area_fits

  pub read-holds : (k : Card) → Accepts card rule_area area k → (read.outcome ≡ read_holds (length k.rule) k.flags k.budget k.groups) × Written k.rule area read.area
  unfolding leaving rule_bytes_need
  read-holds k a =
      let fits = (faultless-fitting k.rule k.flags k.budget rule_area a.is_sound.faultless).rule_fits in
      rw (held_reads a.area_long k a.is_written a.is_sound) (refl, written-first k.rule area (omega (arith, a.area_long)))

  pub read-meets-demands : Bytes card → ReadDemands card rule_area area read
  read-meets-demands bytes = record {
    answers_or_refuses = read-answers (read-ends bytes);
    refused_exactly = λ place why. (read_named (read-ends bytes) place why, named-read);
    holds = read-holds;
    area_unchanged = read_kept (read-ends bytes);
    rule_area_unchanged = read-rule-kept (read-ends bytes);
    rule_area_zeroed = read-rule-zeroed (read-ends bytes);
  }
