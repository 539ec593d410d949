-- The names that the table has.
use Rattle.syntax.specs.Names.{Names}
use Rattle.name_table.specs.Table.{names_in}
use Rattle.linker.specs.declared.names.NameTable.{NameTable}

abbrev pub known_in : NameTable → Names
known_in names = names_in names.rule.now names.table.now names.groups
