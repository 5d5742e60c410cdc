use Rattle.std.proofs.Common.{◌≡◌, ◌++◌}
use Rattle.pg_meaning.specs.Names.{in_byte_order}
use Rattle.pg_project.specs.Columns.{texts_of}
use Rattle.pg_project.proofs.columns.star_names.Given as goal

abbrev pub invariant-loop-text : goal.invariant-loop-text
invariant-loop-text l = l.names ++ texts_of l.text-iterator.rest.items ≡ in_byte_order l.scope
