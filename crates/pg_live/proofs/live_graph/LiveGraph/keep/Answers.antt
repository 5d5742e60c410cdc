use Rattle.std.proofs.Common.{None, ap, ◌∙◌}
use Rattle.pg_live.proofs.LiveLemmas.{ended_aside, ended_live}
use Rattle.pg_live.specs.Live.{Live, begun_at, with_open}
use Rattle.pg_live.proofs.live_graph.LiveGraph.keep.Goals as goal

pub invariant_of-self : goal.invariant_of-self
invariant_of-self g c = let m = c.mark-self-inside.ensures in ended_live g.T.Tables.seen c.self.inside.store c.self.inside.others.items c.self.inside.shared c.self.inside.place c.self.inside.mark c.self.inside.begins.items c.self.invariant c.commit.new.self c.commit.new.shared c.mark-self-inside.result c.commit.ensures.keeps c.commit.ensures.names (record { there = m.there; graph = m.graph; names = m.names; journal = m.journal }) c.commit.ensures.fit

pub returns-clause-aside : goal.returns-clause-aside
returns-clause-aside g c =
    let m = c.mark-self-inside.ensures in
    ended_aside g.T.Tables.seen c.self.inside.store c.self.inside.others.items c.self.inside.shared c.self.inside.place c.self.inside.mark c.self.inside.begins.items c.self.invariant c.commit.new.self c.commit.new.shared c.mark-self-inside.result c.commit.ensures.keeps c.commit.ensures.names (record { there = m.there; graph = m.graph; names = m.names; journal = m.journal }) c.commit.ensures.fit c.commit.ensures.pairs
    ∙ (λ i. with_open None (begun_at (c.commit.ensures.graph i) c.self.inside.shared.names (c.self.view_is i).aside))
    ∙ ap (λ (l : Live _). with_open None (begun_at l.graph l.names c.args.self.now.aside)) c.self.view_is
