use Rattle.pg_store.proofs.Stores.{new_is_fit, new_is_empty}
use Rattle.pg_store.proofs.store.Store.new.Goals as goal

pub returns-clause-fit : goal.returns-clause-fit
returns-clause-fit g c = λ shared distinct unused.
    let made = c.new.ensures in
    new_is_fit g.T.Tables.seen c.new.result shared c.new-2.result c.new-3.result c.new-4.result c.new-5.result (made.empty shared.tables unused) c.new-2.ensures c.new-3.ensures c.new-4.ensures.items c.new-5.ensures.none distinct (made.fits shared.tables unused)

pub returns-clause-empty : goal.returns-clause-empty
returns-clause-empty g c = λ shared unused.
    new_is_empty g.T.Tables.seen c.new.result shared c.new-2.result c.new-3.result c.new-4.result c.new-5.result (c.new.ensures.empty shared.tables unused) c.new-2.ensures c.new-3.ensures c.new-4.ensures.items
