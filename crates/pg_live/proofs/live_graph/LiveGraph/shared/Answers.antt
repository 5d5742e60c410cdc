use Rattle.std.proofs.Common.{ap, get_or, subst}
use Rattle.pg_live.proofs.HeldLemmas.{held, sound}
use Rattle.pg_live.specs.Held.{HoldGraphs, shared_of}
use Rattle.pg_live.specs.Live.{Live, graphs_of}
use Rattle.pg_meaning.specs.Graph.{IsGraph, empty_graph}
use Rattle.pg_live.proofs.live_graph.LiveGraph.shared.Goals as goal

pub returns-clause-is : goal.returns-clause-is
returns-clause-is g c = ap shared_of c.self.view_is

pub returns-clause-held : goal.returns-clause-held
returns-clause-held g c = subst (HoldGraphs g.T.Tables.seen) c.self.view_is (held g.T.Tables.seen c.self.inside.store c.self.inside.others.items c.self.inside.shared c.self.inside.place c.self.inside.mark c.self.inside.begins.items c.self.invariant)

pub returns-clause-sound : goal.returns-clause-sound
returns-clause-sound g c k =
    subst (λ (l : Live _). IsGraph (get_or (graphs_of l) k empty_graph)) c.self.view_is (sound g.T.Tables.seen c.self.inside.store c.self.inside.others.items c.self.inside.shared c.self.inside.place c.self.inside.mark c.self.inside.begins.items c.self.invariant k)
