use Rattle.std.proofs.Common.{sym, ap, ◌∙◌}
use Rattle.pg_graph.specs.Links.{numbers}
use Rattle.pg_pool.proofs.ListPlaces.{list_ended, ended_apart, nothing}
use Rattle.pg_pool.proofs.links.Links.end.Goals as goal

pub returns-then-is_empty-clause-same : goal.returns-then-is_empty-clause-same
returns-then-is_empty-clause-same c =
    let old = c.args.self.now in
    list_ended old.places old.lists c.remove-then-is_empty.new.self c.args.key c.args.node c.requires.apart c.requires.there
    c.remove.new.self c.remove.ensures.removed c.remove-then-is_empty.ensures.updates
    (sym c.list.ensures ∙ ap numbers (nothing c.list.result.now (sym c.is_empty.ensures ∙ c.if-is_empty.true)))

pub returns-then-is_empty-clause-apart : goal.returns-then-is_empty-clause-apart
returns-then-is_empty-clause-apart c =
    let old = c.args.self.now in
    ended_apart old.places old.lists c.remove-then-is_empty.new.self c.args.key c.args.node c.requires.apart c.requires.there
    c.remove.new.self c.remove.ensures.removed c.remove-then-is_empty.ensures.updates
