-- `posix_name_at` meets its contract: letters and no colon, a colon and no `]`, or both, where the letters are the name.
use mathlib.Core.Path.{◌∙◌}
use Rattle.escapes.proofs.NameCases.{bracket-no-colon, bracket-open, set-closed}
use Rattle.escapes.proofs.names.posix_name_at.Goals as goal

pub returns-then-peek-ne-COLON : goal.returns-then-peek-ne-COLON
returns-then-peek-ne-COLON c = c.single.ensures ∙ bracket-no-colon _ _ _ _ _ c.letters_end-end.ensures.0 _ c.peek.ensures.is c.if-peek-ne-COLON.true

pub returns-then-peek-ne-CLOSING_BRACKET : goal.returns-then-peek-ne-CLOSING_BRACKET
returns-then-peek-ne-CLOSING_BRACKET c = c.single-then-peek-ne-CLOSING_BRACKET.ensures ∙ bracket-open _ _ _ _ _ c.letters_end-end.ensures.0 _ c.peek.ensures.is c.if-peek-ne-COLON.false _ c.peek-2.ensures.is c.if-peek-ne-CLOSING_BRACKET.true

pub returns : goal.returns
returns c = c.posix_member.ensures ∙ set-closed _ _ _ _ _ c.letters_end-end.ensures.0 _ c.peek.ensures.is c.if-peek-ne-COLON.false _ c.peek-2.ensures.is c.if-peek-ne-CLOSING_BRACKET.false _ c.set_named.ensures
