use Rattle.pg_store.proofs.Kept.{other_stores_stay}
use Rattle.pg_store.proofs.store.law_of_other_stores.Goals as goal

pub returns : goal.returns
returns g c = other_stores_stay _ g.T.Tables.seen
