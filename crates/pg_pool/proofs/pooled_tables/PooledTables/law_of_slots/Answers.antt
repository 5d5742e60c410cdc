use Rattle.pg_pool.proofs.Found.{slots_stay}
use Rattle.pg_pool.proofs.pooled_tables.PooledTables.law_of_slots.Goals as goal

pub returns : goal.returns
returns g c = slots_stay c.args.self.now c.args.before.now c.args.after.now c.args.owner c.requires.fits c.requires.apart c.requires.others
