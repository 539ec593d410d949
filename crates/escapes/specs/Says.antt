-- What the readers of escapes and named sets promise: their answers are those of the definitions in `syntax`.
-- docs/REFERENCE.md, 7
use Rattle.std.proofs.Math.Option.{Option, none, some}
use Rattle.std.specs.Prelude.{Option as Maybe, None, Some}
use Rattle.charset.specs.declared.Named.{Named}
use Rattle.syntax.specs.Sets.{Member, single, range, named, not_named}
use Rattle.escapes.specs.declared.Member.{Member as Told}
use Rattle.escapes.specs.declared.Member.TheVariants.{Single, Range, Set, NotSet}

-- what the member that a reader tells stands for
abbrev pub member_of : Told → Member
member_of (Single b) = single b
member_of (Range low high) = range low high
member_of (Set set) = named set
member_of (NotSet set) = not_named set

-- what a reader of a set's name says
abbrev pub set_of : Maybe Named → Option Named
set_of (Some set) = some set
set_of None = none
