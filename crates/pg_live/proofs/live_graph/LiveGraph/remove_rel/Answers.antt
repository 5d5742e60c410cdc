use Rattle.std.proofs.Common.{ap, ◌∙◌}
use Rattle.pg_live.proofs.LiveLemmas.{same_aside, still_live}
use Rattle.pg_live.specs.Live.{Live}
use Rattle.pg_live.proofs.live_graph.LiveGraph.remove_rel.Goals as goal

pub invariant_of-self : goal.invariant_of-self
invariant_of-self g c = still_live g.T.Tables.seen c.self.inside.store c.self.inside.others.items c.self.inside.shared c.self.inside.place c.self.inside.mark c.self.inside.begins.items c.self.invariant c.remove_rel.new.self c.self.inside.shared c.remove_rel.ensures.changes.keeps c.remove_rel.ensures.marks c.remove_rel.ensures.changes.fit

pub returns-clause-aside : goal.returns-clause-aside
returns-clause-aside g c = same_aside g.T.Tables.seen c.self.inside.store c.self.inside.others.items c.self.inside.shared c.self.inside.place c.self.inside.mark c.self.inside.begins.items c.self.invariant c.remove_rel.new.self c.self.inside.shared c.remove_rel.ensures.changes.keeps c.remove_rel.ensures.marks c.remove_rel.ensures.changes.fit ∙ ap (λ (l : Live _). l.aside) c.self.view_is
