-- A rule that is ready is held over all lines, and whoever holds it can list a line, have it explained, and ask about its fields.
use Rattle.std.specs.Prelude.{◌≡◌, Bool, List, ℕ, ◌*◌, ◌≤◌, length}
use Rattle.std.proofs.Common.{arith, take_all}
use Rattle.syntax.specs.Limits.{subject_limit, budget_limit, rule_area_need, work_per_step}
use Rattle.semantics.specs.Calls.{Call, work_area_need}
use Rattle.frame.specs.Inputs.{Held}
use Rattle.frame.specs.Preparing.{Readied}
use Rattle.refusals.specs.Laws.{accepted}
use Rattle.fields_line.specs.Promises.{Lent}
use Rattle.page_lines.specs.Rules.{Holds}

-- the area is no longer than the rule needs
pub readied-holds : {checked : Bool} {need : ℕ} {c : Call} {entry groups : ℕ} {area work names : List ℕ} → Readied checked need c entry groups area work names → length area ≤ rule_area_need → Holds area entry c.budget
readied-holds {need = need} {c} {area = area} h long = record { tree = h.tree; stands = rw (take_all rule_area_need area long) at h.stands; budget_fits = (accepted need c h.accepted).budget_fits }

-- the work area is long enough for the largest budget
pub holds-held : {area : List ℕ} {entry budget : ℕ} (line work : List ℕ) → Holds area entry budget → length area ≡ rule_area_need → length line ≤ subject_limit → work_per_step * budget_limit ≤ length work → Held area line work entry budget
unfolding work_area_need work_per_step
holds-held line work h size fits room = record { tree = h.tree; stands = h.stands; code_size = size; subject_fits = fits; work_fits = omega (arith, h.budget_fits); budget_fits = h.budget_fits }

-- and for the table's question
pub holds-lent : {area : List ℕ} {entry budget : ℕ} (work : List ℕ) → Holds area entry budget → length area ≡ rule_area_need → work_per_step * budget_limit ≤ length work → Lent area entry budget work
unfolding work_area_need work_per_step
holds-lent work h size room = record { tree = h.tree; stands = h.stands; code_size = size; work_area_fits = omega (arith, h.budget_fits); budget_fits = h.budget_fits }
