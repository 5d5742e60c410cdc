use Rattle.std.proofs.Common.{sym, ap, ◌∙◌}
use Rattle.pg_pool.proofs.SlotChanges.{no_some}
use Rattle.pg_pool.specs.Records.{label}
use Rattle.pg_pool.proofs.pooled_tables.PooledTablesTables.new_shared.Goals as goal

pub returns : goal.returns
returns g c = record { unused = λ owner key id nodes e. no_some _ (sym (ap label (c.new.ensures key)) ∙ e) }
