use Rattle.std.proofs.Common.{set, get_or, ap, sym, ◌∙◌}
use Rattle.std.proofs.lemmas.List.{set-get_or, set-set}
use Rattle.pg_live.proofs.live_graph.exchange.Goals as goal

pub returns-then-from-to-clause-others : goal.returns-then-from-to-clause-others
returns-then-from-to-clause-others g c =
    let os = c.args.others.now.items in
    let store = c.args.store.now in
    let last = get_or os c.args.from store in
    sym (ap (λ k. set (set os c.args.from store) k last) (sym c.if-from-to.true) ∙ set-set os c.args.from store last ∙ set-get_or os c.args.from store)
