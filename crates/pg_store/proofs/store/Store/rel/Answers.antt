use Rattle.std.proofs.Common.{sym, ◌∙◌}
use Rattle.pg_graph.proofs.Removed.{get_gone, get_kept}
use Rattle.pg_store.proofs.store.Store.rel.Goals as goal

pub returns-then-contains : goal.returns-then-contains
returns-then-contains g c =
    let store = c.args.self.now in
    sym (get_gone (g.T.Tables.seen.content store.tables c.args.shared.now.tables).rels store.gone_rels c.args.id.0 (sym c.contains.ensures ∙ c.if-contains.true))

pub returns : goal.returns
returns g c =
    let store = c.args.self.now in
    c.rel.ensures
    ∙ sym (get_kept (g.T.Tables.seen.content store.tables c.args.shared.now.tables).rels store.gone_rels c.args.id.0 (sym c.contains.ensures ∙ c.if-contains.false))
