use Rattle.std.proofs.Common.{map, sym}
use Rattle.pg_value_core.specs.View.{view}
use Rattle.pg_rows.proofs.Tabled.{length_rows}
use Rattle.pg_rows.proofs.table.Rows.len.Goals as goal

pub returns : goal.returns
returns c = sym (length_rows c.args.self.now.width c.args.self.now.count (map view c.args.self.now.values.items))
