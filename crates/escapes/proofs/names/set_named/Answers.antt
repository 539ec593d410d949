-- `set_named` meets its contract: a name that is known computes, and one that is none of these seven is looked up in the rest of the list.
use Rattle.std.specs.Cmp.Lexicographic.{bytes_decides}
use mathlib.Core.Path.{sym, ◌∙◌}
use Rattle.syntax.specs.Sets.{namings, same_bytes, lookup, set_named}
use Rattle.escapes.proofs.NameCases.{differ, passed}
use Rattle.escapes.proofs.names.set_named.Goals as goal

pub returns-then-eq : goal.returns-then-eq
unfolding namings same_bytes lookup set_named
returns-then-eq c = rw ((bytes_decides c.args.name.now c.as_slice.result.now).0 (sym c.eq.ensures ∙ c.if-eq.true) ∙ c.as_slice.ensures)

pub returns-then-eq-2 : goal.returns-then-eq-2
unfolding namings same_bytes lookup set_named
returns-then-eq-2 c = rw ((bytes_decides c.args.name.now c.as_slice-2.result.now).0 (sym c.eq-2.ensures ∙ c.if-eq-2.true) ∙ c.as_slice-2.ensures)

pub returns-then-eq-3 : goal.returns-then-eq-3
unfolding namings same_bytes lookup set_named
returns-then-eq-3 c = rw ((bytes_decides c.args.name.now c.as_slice-3.result.now).0 (sym c.eq-3.ensures ∙ c.if-eq-3.true) ∙ c.as_slice-3.ensures)

pub returns-then-eq-4 : goal.returns-then-eq-4
unfolding namings same_bytes lookup set_named
returns-then-eq-4 c = rw ((bytes_decides c.args.name.now c.as_slice-4.result.now).0 (sym c.eq-4.ensures ∙ c.if-eq-4.true) ∙ c.as_slice-4.ensures)

pub returns-then-eq-5 : goal.returns-then-eq-5
unfolding namings same_bytes lookup set_named
returns-then-eq-5 c = rw ((bytes_decides c.args.name.now c.as_slice-5.result.now).0 (sym c.eq-5.ensures ∙ c.if-eq-5.true) ∙ c.as_slice-5.ensures)

pub returns-then-eq-6 : goal.returns-then-eq-6
unfolding namings same_bytes lookup set_named
returns-then-eq-6 c = rw ((bytes_decides c.args.name.now c.as_slice-6.result.now).0 (sym c.eq-6.ensures ∙ c.if-eq-6.true) ∙ c.as_slice-6.ensures)

pub returns-then-eq-7 : goal.returns-then-eq-7
unfolding namings same_bytes lookup set_named
returns-then-eq-7 c = rw ((bytes_decides c.args.name.now c.as_slice-7.result.now).0 (sym c.eq-7.ensures ∙ c.if-eq-7.true) ∙ c.as_slice-7.ensures)

pub returns : goal.returns
unfolding namings set_named
returns c = c.later_named.ensures ∙ passed 7 namings _ ((λ e. differ _ (λ k. c.eq.ensures ∙ (bytes_decides _ _).1 (k ∙ sym c.as_slice.ensures)) c.if-eq.false e), ((λ e. differ _ (λ k. c.eq-2.ensures ∙ (bytes_decides _ _).1 (k ∙ sym c.as_slice-2.ensures)) c.if-eq-2.false e), ((λ e. differ _ (λ k. c.eq-3.ensures ∙ (bytes_decides _ _).1 (k ∙ sym c.as_slice-3.ensures)) c.if-eq-3.false e), ((λ e. differ _ (λ k. c.eq-4.ensures ∙ (bytes_decides _ _).1 (k ∙ sym c.as_slice-4.ensures)) c.if-eq-4.false e), ((λ e. differ _ (λ k. c.eq-5.ensures ∙ (bytes_decides _ _).1 (k ∙ sym c.as_slice-5.ensures)) c.if-eq-5.false e), ((λ e. differ _ (λ k. c.eq-6.ensures ∙ (bytes_decides _ _).1 (k ∙ sym c.as_slice-6.ensures)) c.if-eq-6.false e), ((λ e. differ _ (λ k. c.eq-7.ensures ∙ (bytes_decides _ _).1 (k ∙ sym c.as_slice-7.ensures)) c.if-eq-7.false e), tt)))))))
