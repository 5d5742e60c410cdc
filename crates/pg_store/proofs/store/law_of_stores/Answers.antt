use Rattle.pg_store.proofs.Stores.{store_is_graph}
use Rattle.pg_store.proofs.store.law_of_stores.Goals as goal

pub returns : goal.returns
returns g c = store_is_graph g.T.Tables.seen
