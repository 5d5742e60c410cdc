use Rattle.std.proofs.Common.{ap, ◌∙◌}
use Rattle.pg_value_core.proofs.Maps.{entries_view-insert_entry}
use Rattle.pg_value_core.specs.View.{entries_view}
use Rattle.pg_json.proofs.values.put_entry.Goals as goal

pub returns : goal.returns
returns c = ap entries_view c.in_ok-insert.ensures.entries ∙ entries_view-insert_entry c.args.entries.now.entries c.args.name c.args.value
