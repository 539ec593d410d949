-- Both fields are looked up, and their bytes compared.
use Rattle.lookup.specs.Laws.Names.{same-told}
use Rattle.lookup.specs.Laws.Lookup.{lent-bytes}
use Rattle.fields_row.specs.Fields.{field_named}
use Rattle.fields_compared.proofs.agree_on.Goals as goal

pub returns : goal.returns
unfolding field_named
returns c = let a = c.args in
    rw (← lent-bytes a.line a.standing _ _ c.field-one.ensures, ← lent-bytes a.line a.standing _ _ c.field-other.ensures) (same-told _ _ _ c.same.ensures.0 c.same.ensures.1)
