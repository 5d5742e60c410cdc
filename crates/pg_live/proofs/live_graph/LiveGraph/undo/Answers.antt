use Rattle.std.proofs.Common.{ap, ◌∙◌}
use Rattle.pg_live.proofs.LiveLemmas.{aside_back, live_back}
use Rattle.pg_live.specs.Live.{Live}
use Rattle.pg_live.proofs.live_graph.LiveGraph.undo.Goals as goal

pub invariant_of-self : goal.invariant_of-self
invariant_of-self g c = live_back g.T.Tables.seen c.self.inside.store c.self.inside.others.items c.self.inside.shared c.self.inside.place c.self.inside.mark c.self.inside.begins.items c.self.invariant c.undo.new.self c.undo.new.shared c.undo.ensures.keeps c.undo.ensures.names c.undo.ensures.there c.undo.ensures.marks c.undo.ensures.fit

pub returns-clause-aside : goal.returns-clause-aside
returns-clause-aside g c = aside_back g.T.Tables.seen c.self.inside.store c.self.inside.others.items c.self.inside.shared c.self.inside.place c.self.inside.mark c.self.inside.begins.items c.self.invariant c.undo.new.self c.undo.new.shared c.undo.ensures.keeps c.undo.ensures.names c.undo.ensures.there c.undo.ensures.marks c.undo.ensures.fit c.undo.ensures.pairs ∙ ap (λ (l : Live _). l.aside) c.self.view_is
