use Rattle.std.proofs.Common.{Some, ap, ◌∙◌}
use Rattle.pg_live.proofs.LiveLemmas.{begun_aside, begun_live, begun_open}
use Rattle.pg_live.specs.Live.{Live, begun_at, with_open}
use Rattle.pg_live.proofs.live_graph.LiveGraph.begin.Goals as goal

pub invariant_of-self : goal.invariant_of-self
invariant_of-self g c = let m = c.mark-mark.ensures in begun_live g.T.Tables.seen c.self.inside.store c.self.inside.others.items c.self.inside.shared c.self.inside.place c.self.inside.mark c.self.inside.begins.items c.self.invariant c.mark-mark.result (record { there = m.there; graph = m.graph; names = m.names; journal = m.journal }) c.args.holder

pub returns-clause-aside : goal.returns-clause-aside
returns-clause-aside g c =
    let m = c.mark-mark.ensures in
    begun_aside g.T.Tables.seen c.self.inside.store c.self.inside.others.items c.self.inside.shared c.self.inside.place c.self.inside.mark c.self.inside.begins.items c.self.invariant c.mark-mark.result (record { there = m.there; graph = m.graph; names = m.names; journal = m.journal }) c.args.holder
    ∙ ap (λ (l : Live _). with_open (Some (record { holder = c.args.holder; graph = l.graph })) (begun_at l.graph l.names l.aside)) c.self.view_is

pub returns-clause-open : goal.returns-clause-open
returns-clause-open g c =
    let m = c.mark-mark.ensures in
    begun_open g.T.Tables.seen c.self.inside.store c.self.inside.others.items c.self.inside.shared c.self.inside.place c.self.inside.mark c.self.inside.begins.items c.self.invariant c.mark-mark.result (record { there = m.there; graph = m.graph; names = m.names; journal = m.journal }) c.args.holder
    ∙ ap (λ (l : Live _). Some (record { holder = c.args.holder; graph = l.graph })) c.self.view_is
