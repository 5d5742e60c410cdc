use Rattle.pg_pool.proofs.Found.{are_records}
use Rattle.pg_pool.proofs.pooled_tables.PooledTables.law_of_records.Goals as goal

pub returns : goal.returns
returns g c = are_records c.args.self.now c.args.pool.now c.requires
