-- `compile_into` meets its contract: each answer is a law of Compilations, at what the two passes and the profile ensure.
use Rattle.std.proofs.lemmas.Result.{err_from_is_err_and}
use Rattle.reader.proofs.Compilations.{linkable, measurable, entered, unfollowed, barred, dangling, fails-reading, parse-refused}
use Rattle.reader.proofs.compiling.compile_into.Goals as goal

pub judged-profile-requires : goal.judged-profile-requires
judged-profile-requires c = let a = c.args in
    measurable a.rule.now a.flags c.read_rule.new.area c.read_rule.new.table _ c.in_ok-inside.ensures

pub followed-course-requires : goal.followed-course-requires
followed-course-requires c = let a = c.args in
    measurable a.rule.now a.flags c.read_rule.new.area c.read_rule.new.table _ c.in_ok-inside.ensures

pub link-requires : goal.link-requires
link-requires c = let a = c.args in
    linkable a.rule.now a.flags c.read_rule.new.area c.read_rule.new.table _ c.in_ok-inside.ensures

pub returns-in_err-inside : goal.returns-in_err-inside
returns-in_err-inside c = let p = err_from_is_err_and c.from_residual.result c.from_residual.ensures.1 in
    rw (p.1, p.2) (fails-reading _ _ c.args.checked _ (parse-refused _ _ _ _ c.in_err-inside.ensures))

pub returns-in_err-entry : goal.returns-in_err-entry
returns-in_err-entry c = let a = c.args in
    let p = err_from_is_err_and c.from_residual-in_err-entry.result c.from_residual-in_err-entry.ensures.1 in
    rw (p.1, p.2) (fails-reading _ _ a.checked _ (dangling a.rule.now a.flags c.read_rule.new.area c.read_rule.new.table _ c.in_ok-inside.ensures _ _ c.in_err-entry.ensures))

pub returns-in_err-profile : goal.returns-in_err-profile
returns-in_err-profile c = let a = c.args in
    let p = err_from_is_err_and c.from_residual-in_err-profile.result c.from_residual-in_err-profile.ensures.1 in
    rw (p.1, p.2) (barred a.rule.now a.flags c.read_rule.new.area c.read_rule.new.table _ c.in_ok-inside.ensures _ _ c.in_ok-entry.ensures a.checked _ c.in_err-profile.ensures)

pub returns-in_err-course : goal.returns-in_err-course
returns-in_err-course c = let a = c.args in
    let p = err_from_is_err_and c.from_residual-in_err-course.result c.from_residual-in_err-course.ensures.1 in
    rw (p.1, p.2) (unfollowed a.rule.now a.flags c.read_rule.new.area c.read_rule.new.table _ c.in_ok-inside.ensures _ _ c.in_ok-entry.ensures c.in_ok-profile.ensures a.checked _ c.in_err-course.ensures)

pub returns : goal.returns
returns c = let a = c.args in
    entered a.rule.now a.flags c.read_rule.new.area c.read_rule.new.table _ c.in_ok-inside.ensures _ _ c.in_ok-entry.ensures c.in_ok-profile.ensures a.checked c.in_ok-course.ensures
