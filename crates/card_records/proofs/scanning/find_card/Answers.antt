-- By cases on how the records end.
use mathlib.Core.Logic.{inl, inr}
use mathlib.Core.Path.{subst}
use Rattle.std.proofs.lemmas.Result.{err_from_is_err_and}
use Rattle.card_format.specs.Cards.{fails, card_in}
use Rattle.card_format.specs.CardDemands.{unknown_kind, cut_short}
use Rattle.card_records.specs.Walking.{Cuts}
use Rattle.card_format.proofs.Laws.Scanning.{fault-fails}
use Rattle.card_records.proofs.scanning.find_card.Goals as goal

pub returns-in_err-cut : goal.returns-in_err-cut
returns-in_err-cut c =
    let z = subst (Cuts c.args.card.now) c.in_err-cut.was c.cut_records.ensures in
    let q = err_from_is_err_and c.from_residual.result c.from_residual.ensures.1 in
    rw (q.1, q.2) (elim z [ inl u ↦ rw u.0 (fault-fails (unknown_kind u.1)) | inr s ↦ rw s.0 (fault-fails (cut_short s.1)) ])

pub check_records-requires : goal.check_records-requires
check_records-requires c = subst (Cuts c.args.card.now) c.in_ok-cut.was c.cut_records.ensures
