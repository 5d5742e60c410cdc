use Rattle.std.proofs.Common.{subst}
use Rattle.pg_meaning.specs.Graph.{IsGraph}
use Rattle.pg_live.specs.Live.{Live}
use Rattle.pg_store.proofs.Stores.{store_is_graph}
use Rattle.pg_live.proofs.live_graph.LiveGraph.graph.Goals as goal

pub returns-clause-sound : goal.returns-clause-sound
returns-clause-sound g c = subst (λ (l : Live _). IsGraph l.graph) c.self.view_is (store_is_graph g.T.Tables.seen c.self.inside.store c.self.inside.shared c.self.invariant.fit)
