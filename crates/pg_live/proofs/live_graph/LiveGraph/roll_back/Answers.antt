use Rattle.std.proofs.Common.{None, ap, ◌∙◌}
use Rattle.std.specs.Option.{option_map_or}
use Rattle.pg_live.proofs.LiveLemmas.{ended_aside, ended_live, graph_back, own_entry, own_open}
use Rattle.pg_live.specs.Live.{Live, begun_at, open_at, with_open}
use Rattle.pg_store.specs.Stores.{graph_of_store}
use Rattle.pg_live.proofs.live_graph.LiveGraph.roll_back.Goals as goal

pub go_back-requires-clause-marked : goal.go_back-requires-clause-marked
go_back-requires-clause-marked g c = own_open g.T.Tables.seen c.self.inside.store c.self.inside.others.items c.self.inside.shared c.self.inside.place c.self.inside.mark c.self.inside.begins.items c.self.invariant c.index-begin.result.now (own_entry g.T.Tables.seen c.self.inside.store c.self.inside.others.items c.self.inside.shared c.self.inside.place c.self.inside.mark c.self.inside.begins.items c.self.invariant c.index-begin.result.now c.index-begin.ensures)

pub invariant_of-self : goal.invariant_of-self
invariant_of-self g c = let m = c.mark-self-inside.ensures in ended_live g.T.Tables.seen c.self.inside.store c.self.inside.others.items c.self.inside.shared c.self.inside.place c.self.inside.mark c.self.inside.begins.items c.self.invariant c.go_back.new.store c.go_back.new.shared c.mark-self-inside.result c.go_back.ensures.keeps c.go_back.ensures.names (record { there = m.there; graph = m.graph; names = m.names; journal = m.journal }) c.go_back.ensures.fit

pub returns-clause-graph : goal.returns-clause-graph
returns-clause-graph g c =
    c.go_back.ensures.graph
    ∙ graph_back g.T.Tables.seen c.self.inside.store c.self.inside.others.items c.self.inside.shared c.self.inside.place c.self.inside.mark c.self.inside.begins.items c.self.invariant c.index-begin.result.now (own_entry g.T.Tables.seen c.self.inside.store c.self.inside.others.items c.self.inside.shared c.self.inside.place c.self.inside.mark c.self.inside.begins.items c.self.invariant c.index-begin.result.now c.index-begin.ensures)
    ∙ ap (λ (l : Live _). option_map_or (λ b. b.graph) (open_at l.aside) l.graph) c.self.view_is

pub returns-clause-aside : goal.returns-clause-aside
returns-clause-aside g c =
    let m = c.mark-self-inside.ensures in
    ended_aside g.T.Tables.seen c.self.inside.store c.self.inside.others.items c.self.inside.shared c.self.inside.place c.self.inside.mark c.self.inside.begins.items c.self.invariant c.go_back.new.store c.go_back.new.shared c.mark-self-inside.result c.go_back.ensures.keeps c.go_back.ensures.names (record { there = m.there; graph = m.graph; names = m.names; journal = m.journal }) c.go_back.ensures.fit c.go_back.ensures.pairs
    ∙ ap (λ (l : Live _). with_open None (begun_at (graph_of_store g.T.Tables.seen c.go_back.new.store c.go_back.new.shared) l.names l.aside)) c.self.view_is
