-- What 02's request i) says of both calls together, for all inputs; and that the demands leave no freedom.
-- docs/REFERENCE.md, 17.3
use Rattle.std.specs.Prelude.{◌≡◌, List, ◌↔◌, ℕ, ◌≤◌, length, take, replicate}
use Rattle.std.proofs.Common.{sym, ap, subst, ◌∙◌, inl, inr, arith}
use Rattle.syntax.specs.declared.Reason.{Reason}
use Rattle.syntax.specs.Limits.{rule_limit, rule_area_need}
use Rattle.syntax.specs.Read.{Read, sound}
use Rattle.syntax.specs.Tree.{Rule}
use Rattle.syntax.specs.Reading.{reading}
use Rattle.semantics.specs.Demands.{Written}
use Rattle.semantics.proofs.Laws.Areas.{written_over}
use Rattle.semantics.proofs.Laws.Cases.{clash}
use Rattle.card_format.specs.Cards.{Card, written, card_need, rule_bytes_need, CardReturn, WriteOutcome, write_wrote, write_refused, write_call, ReadOutcome, read_holds, read_refused, read_call}
use Rattle.card_format.specs.CardDemands.{Bytes, Faultless, Sound, itself, its_own, card_of, WriteRefuses, area_short, unsound, WriteDemands, ReadRefuses, no_card, miscounted, Accepts, ReadDemands}
use Rattle.card_format.proofs.CardDemandsHold.{write-meets-demands, read-holds, read-meets-demands}
use Rattle.card_format.proofs.Laws.Written.{written-fits}
use Rattle.card_format.proofs.Laws.Ruling.{fitting-faultless, faultless-fitting}

-- Sound rules --------------------------------------------------------------------------

-- a rule that is sound is so with every rule area that is long enough
other-area : {rule : List ℕ} {flags budget : ℕ} {rule_area : List ℕ} {groups : ℕ} → Sound rule flags budget rule_area groups → (other : List ℕ) → rule_area_need ≤ length other → Sound rule flags budget other groups
other-area {rule} {flags} {budget} {rule_area} z other long =
    let f = faultless-fitting rule flags budget rule_area z.faultless in
    record {
      faultless = fitting-faultless rule flags budget other (record { rule_fits = f.rule_fits; flags_fit = f.flags_fit; budget_fits = f.budget_fits; area_fits = long });
      tree = z.tree;
      stop = z.stop;
      reads = z.reads;
    }

-- a call that answers was accepted
wrote-sound : (rule : List ℕ) (flags budget : ℕ) (rule_area area : List ℕ) (x : CardReturn WriteOutcome) → WriteDemands rule flags budget rule_area area x → (n : ℕ) → x.outcome ≡ write_wrote n
    → (card_need ≤ length area) × (groups : ℕ) × Sound rule flags budget rule_area groups
wrote-sound rule flags budget rule_area area x d n e = elim d.answers_or_refuses [
  | inl z ↦ z
  | inr z ↦ (let r : x.outcome ≡ write_refused z.0 z.1 = (d.refused_exactly z.0 z.1).1 z.2 in absurd (clash (cc)))
]

-- Reading and writing, as the calls tell them ----------------------------------------------

-- a card is read as this rule with its flags and budget
abbrev pub ReadsAs : (card rule_area area rule : List ℕ) (flags budget : ℕ) → Type 0
ReadsAs card rule_area area rule flags budget =
    let read = read_call card rule_area area in
    (groups : ℕ) × (read.outcome ≡ read_holds (length rule) flags budget groups) × Written rule area read.area

-- writing makes this card of them
abbrev pub Makes : (rule : List ℕ) (flags budget : ℕ) (rule_area area card : List ℕ) → Type 0
Makes rule flags budget rule_area area card = let wrote = write_call rule flags budget rule_area area in (wrote.outcome ≡ write_wrote (length card)) × Written card area wrote.area

-- what stands at the front of an area is known by its length
same-front : (a b before after : List ℕ) → Written a before after → Written b before after → length a ≡ length b → a ≡ b
same-front a b before after v w e = sym v.first ∙ ap (λ (n : ℕ). take n after) e ∙ w.first

-- a card that is read was accepted
read-accepts : (card rule_area area : List ℕ) → Bytes card → (rule : List ℕ) (flags budget : ℕ) → ReadsAs card rule_area area rule flags budget
    → (groups : ℕ) × Accepts card rule_area area (card_of rule flags budget groups)
read-accepts card rule_area area bytes rule flags budget (groups, e, w) = elim (read-meets-demands card rule_area area bytes).answers_or_refuses [
  | inl z ↦ (
      let h = read-holds card rule_area area z.0 z.1 in
      let r : z.0.rule ≡ rule = same-front z.0.rule rule area (read_call card rule_area area).area h.1 w (cc h.0) in
      let f : z.0.flags ≡ flags = cc h.0 in
      let b : z.0.budget ≡ budget = cc h.0 in
      let g : z.0.groups ≡ groups = cc h.0 in
      let is : z.0 ≡ card_of rule flags budget groups = rw (← r, ← f, ← b, ← g) in
      (groups, subst (Accepts card rule_area area) is z.1))
  | inr z ↦ (
      let r : (read_call card rule_area area).outcome ≡ read_refused z.0 z.1 = ((read-meets-demands card rule_area area bytes).refused_exactly z.0 z.1).1 z.2 in
      absurd (clash (cc)))
]

-- a card that is made is what is written of a sound rule
made-of-sound : (rule : List ℕ) (flags budget : ℕ) (rule_area area card : List ℕ) → Makes rule flags budget rule_area area card
    → (groups : ℕ) × Sound rule flags budget rule_area groups × (card ≡ written (card_of rule flags budget groups))
made-of-sound rule flags budget rule_area area card (e, w) =
    let d = write-meets-demands rule flags budget rule_area area in
    let z = wrote-sound rule flags budget rule_area area (write_call rule flags budget rule_area area) d (length card) e in
    let k = card_of rule flags budget z.1 in
    let h = d.writes z.0 z.1 z.2 in
    (z.1, z.2, same-front card (written k) area (write_call rule flags budget rule_area area).area w h.1 (cc h.0))

-- What 02 says of both --------------------------------------------------------------------

-- "Writing and reading back gives the same rule", with its flags and budget: whatever areas are lent
pub written-and-read : (rule : List ℕ) (flags budget : ℕ) (rule_area area card : List ℕ) → Makes rule flags budget rule_area area card
    → (other bytes : List ℕ) → rule_area_need ≤ length other → rule_bytes_need ≤ length bytes → ReadsAs card other bytes rule flags budget
written-and-read rule flags budget rule_area area card m other bytes long room =
    let z = made-of-sound rule flags budget rule_area area card m in
    let h = read-holds card other bytes (card_of rule flags budget z.0) (record { area_long = room; is_written = z.2; is_sound = other-area z.1 other long }) in
    (z.0, h.0, h.1)

-- the bytes of a card that is read are those that are written of what it says, whatever areas are lent
pub read-and-written : (card rule_area area : List ℕ) → Bytes card → (rule : List ℕ) (flags budget : ℕ) → ReadsAs card rule_area area rule flags budget
    → (other card_area : List ℕ) → rule_area_need ≤ length other → card_need ≤ length card_area → Makes rule flags budget other card_area card
read-and-written card rule_area area bytes rule flags budget r other card_area long room =
    let z = read-accepts card rule_area area bytes rule flags budget r in
    let w = (write-meets-demands rule flags budget other card_area).writes room z.0 (other-area z.1.is_sound other long) in
    subst (Makes rule flags budget other card_area) (sym z.1.is_written) w

-- what reading accepts is exactly what writing makes, with areas that are long enough
pub accepted_exactly : (card rule : List ℕ) (flags budget : ℕ) (rule_area area card_area : List ℕ) → Bytes card
    → rule_area_need ≤ length rule_area → rule_bytes_need ≤ length area → card_need ≤ length card_area
    → ReadsAs card rule_area area rule flags budget ↔ Makes rule flags budget rule_area card_area card
accepted_exactly card rule flags budget rule_area area card_area bytes long room wide = (
  λ r. read-and-written card rule_area area bytes rule flags budget r rule_area card_area long wide,
  λ m. written-and-read rule flags budget rule_area card_area card m rule_area area long room,
)

same-groups : (x : Read (Rule × ℕ)) {a b : Rule} {m n i j : ℕ} → x ≡ sound (a, m) i → x ≡ sound (b, n) j → m ≡ n
same-groups x {a} {b} {m} {n} e f = let z : ◌≡◌ {A = Rule × ℕ} (a, m) (b, n) = cc in ap (λ (p : Rule × ℕ). p.1) z

-- "one rule with its budget and flags has one card": two that are read as the same, with whatever areas, are the same bytes
pub one-card-a-rule : (card rule_area area : List ℕ) → Bytes card → (card' rule_area' area' : List ℕ) → Bytes card' → (rule : List ℕ) (flags budget : ℕ)
    → ReadsAs card rule_area area rule flags budget → ReadsAs card' rule_area' area' rule flags budget → card ≡ card'
one-card-a-rule card rule_area area bytes card' rule_area' area' bytes' rule flags budget r r' =
    let a = read-accepts card rule_area area bytes rule flags budget r in
    let b = read-accepts card' rule_area' area' bytes' rule flags budget r' in
    let g = same-groups (reading rule flags) a.1.is_sound.reads b.1.is_sound.reads in
    a.1.is_written ∙ ap (λ (n : ℕ). written (card_of rule flags budget n)) g ∙ sym b.1.is_written

-- What is told fits -----------------------------------------------------------------------

pub wrote-fits : (rule : List ℕ) (flags budget : ℕ) (rule_area area : List ℕ) (n : ℕ) → (write_call rule flags budget rule_area area).outcome ≡ write_wrote n → n ≤ card_need
wrote-fits rule flags budget rule_area area n e =
    let d = write-meets-demands rule flags budget rule_area area in
    let z = wrote-sound rule flags budget rule_area area (write_call rule flags budget rule_area area) d n e in
    let k = card_of rule flags budget z.1 in
    let h = d.writes z.0 z.1 z.2 in
    let m : n ≡ length (written k) = cc h.0 in
    omega (arith, m, written-fits k (faultless-fitting rule flags budget rule_area z.2.faultless).rule_fits)

pub read_fits : (card rule_area area : List ℕ) → Bytes card → (size flags budget groups : ℕ) → (read_call card rule_area area).outcome ≡ read_holds size flags budget groups → size ≤ rule_limit
read_fits card rule_area area bytes size flags budget groups e = elim (read-meets-demands card rule_area area bytes).answers_or_refuses [
  | inl z ↦ (
      let k = z.0 in
      let h = read-holds card rule_area area k z.1 in
      let m : length k.rule ≡ size = cc h.0 in
      omega (arith, m, (faultless-fitting k.rule k.flags k.budget rule_area z.1.is_sound.faultless).rule_fits))
  | inr z ↦ (
      let r : (read_call card rule_area area).outcome ≡ read_refused z.0 z.1 = ((read-meets-demands card rule_area area bytes).refused_exactly z.0 z.1).1 z.2 in
      absurd (clash (cc)))
]

-- The demands settle the calls ------------------------------------------------------------------

written_once : (numbers before x y : List ℕ) → Written numbers before x → Written numbers before y → x ≡ y
written_once numbers before x y v w = written_over numbers before x v ∙ sym (written_over numbers before y w)

same-return : {A : Type 0} (x y : CardReturn A) → x.outcome ≡ y.outcome → x.rule_area ≡ y.rule_area → x.area ≡ y.area → x ≡ y
same-return x y e f g = rw (e, f, g)

module _ (rule : List ℕ) (flags budget : ℕ) (rule_area area : List ℕ) (x y : CardReturn WriteOutcome) (v : WriteDemands rule flags budget rule_area area x) (w : WriteDemands rule flags budget rule_area area y) where
  abbrev zeros : List ℕ
  zeros = replicate rule_area_need 0

  write_refused-alike : (place : ℕ) (why : Reason) → WriteRefuses rule flags budget rule_area area place why → x.rule_area ≡ y.rule_area → x ≡ y
  write_refused-alike place why r e =
      let p = (v.refused_exactly place why).1 r in
      let q = (w.refused_exactly place why).1 r in
      same-return x y (p ∙ sym q) e (v.area_unchanged place why p ∙ sym (w.area_unchanged place why q))

  write_refused-once : (place : ℕ) (why : Reason) → WriteRefuses rule flags budget rule_area area place why → x ≡ y
  write_refused-once place why (area_short l) = write_refused-alike place why (area_short l) (v.rule_area_unchanged (inl l) ∙ sym (w.rule_area_unchanged (inl l)))
  write_refused-once place why (unsound room (itself f)) = write_refused-alike place why (unsound room (itself f)) (v.rule_area_unchanged (inr (why, f.fault)) ∙ sym (w.rule_area_unchanged (inr (why, f.fault))))
  write_refused-once place why (unsound room (its_own f e)) =
      write_refused-alike place why (unsound room (its_own f e)) (written_once zeros rule_area x.rule_area y.rule_area (v.rule_area_zeroed room f) (w.rule_area_zeroed room f))

  pub write-settled : x ≡ y
  write-settled = elim v.answers_or_refuses [
    | inr z ↦ write_refused-once z.0 z.1 z.2
    | inl z ↦ (
        let p = v.writes z.0 z.1 z.2 in
        let q = w.writes z.0 z.1 z.2 in
        same-return x y (p.0 ∙ sym q.0) (written_once zeros rule_area x.rule_area y.rule_area (v.rule_area_zeroed z.0 z.2.faultless) (w.rule_area_zeroed z.0 z.2.faultless)) (written_once (written (card_of rule flags budget z.1)) area x.area y.area p.1 q.1))
  ]

module _ (card rule_area area : List ℕ) (x y : CardReturn ReadOutcome) (v : ReadDemands card rule_area area x) (w : ReadDemands card rule_area area y) where
  read_refused-alike : (place : ℕ) (why : Reason) → ReadRefuses card rule_area area place why → x.rule_area ≡ y.rule_area → x ≡ y
  read_refused-alike place why r e =
      let p = (v.refused_exactly place why).1 r in
      let q = (w.refused_exactly place why).1 r in
      same-return x y (p ∙ sym q) e (v.area_unchanged place why p ∙ sym (w.area_unchanged place why q))

  both-zeroed : rule_bytes_need ≤ length area → (k : Card) → card ≡ written k → Faultless k.rule k.flags k.budget rule_area → x.rule_area ≡ y.rule_area
  both-zeroed room k is f = written_once (replicate rule_area_need 0) rule_area x.rule_area y.rule_area (v.rule_area_zeroed room k is f) (w.rule_area_zeroed room k is f)

  read_refused-once : (place : ℕ) (why : Reason) → ReadRefuses card rule_area area place why → x ≡ y
  read_refused-once place why (area_short l) = read_refused-alike place why (area_short l) (v.rule_area_unchanged (inl l) ∙ sym (w.rule_area_unchanged (inl l)))
  read_refused-once place why (no_card room f) = read_refused-alike place why (no_card room f) (v.rule_area_unchanged (inr (inl (why, f))) ∙ sym (w.rule_area_unchanged (inr (inl (why, f)))))
  read_refused-once place why (unsound room k is (itself f)) =
      read_refused-alike place why (unsound room k is (itself f)) (v.rule_area_unchanged (inr (inr (k, why, is, f.fault))) ∙ sym (w.rule_area_unchanged (inr (inr (k, why, is, f.fault)))))
  read_refused-once place why (unsound room k is (its_own f e)) = read_refused-alike place why (unsound room k is (its_own f e)) (both-zeroed room k is f)
  read_refused-once place why (miscounted room k is groups z h) = read_refused-alike place why (miscounted room k is groups z h) (both-zeroed room k is z.faultless)

  pub read-settled : x ≡ y
  read-settled = elim v.answers_or_refuses [
    | inr z ↦ read_refused-once z.0 z.1 z.2
    | inl z ↦ (
        let p = v.holds z.0 z.1 in
        let q = w.holds z.0 z.1 in
        same-return x y (p.0 ∙ sym q.0) (both-zeroed z.1.area_long z.0 z.1.is_written z.1.is_sound.faultless) (written_once z.0.rule area x.area y.area p.1 q.1))
  ]
