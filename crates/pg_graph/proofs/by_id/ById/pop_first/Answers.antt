use Rattle.std.proofs.Common.{sym, ap, ◌∙◌}
use Rattle.std.proofs.lemmas.Option.{IfSome_then}
use Rattle.std.specs.FinMap as map
use Rattle.pg_graph.proofs.Maps.{entries_removed, get_of_entries}
use Rattle.pg_graph.proofs.by_id.ById.pop_first.Goals as goal

pub returns-clause-before : goal.returns-clause-before
returns-clause-before g c =
    IfSome_then c.pop_first.result c.pop_first.ensures.value (λ p e. ap (λ m. map.get m p.0) (sym c.self.view_is) ∙ get_of_entries _ _ ∙ e)

pub returns-clause-removed : goal.returns-clause-removed
returns-clause-removed g c =
    IfSome_then c.pop_first.result c.pop_first.ensures.updates (λ p e.
    entries_removed c.self.inside.kept.entries c.pop_first.new.self.entries p.0 e.0
    ∙ ap (λ m. map.remove m p.0) c.self.view_is)
