use Rattle.std.proofs.Common.{sym, ap, subst, ◌∙◌}
use Rattle.std.proofs.lemmas.Option.{IfSome_then}
use Rattle.std.specs.FinMap as map
use Rattle.pg_graph.specs.IdRuns.{set_of}
use Rattle.pg_graph.specs.Sorted.{Rises}
use Rattle.pg_graph.proofs.IdSetLemmas.{held_rises, last_is_in, last_is_out}
use Rattle.pg_graph.proofs.id_set.IdSet.pop.Goals as goal

pub returns-clause-before : goal.returns-clause-before
returns-clause-before c = IfSome_then c.pop.result c.pop.ensures.some (λ id is.
    let rise = subst (Rises (λ n. n)) is (held_rises c.self.inside.held c.self.invariant) in
    ap (λ m. map.get m id) (sym c.self.view_is ∙ ap set_of is) ∙ last_is_in id _ rise)

pub returns-clause-removed : goal.returns-clause-removed
returns-clause-removed c = IfSome_then c.pop.result c.pop.ensures.some (λ id is.
    let rise = subst (Rises (λ n. n)) is (held_rises c.self.inside.held c.self.invariant) in
    last_is_out id _ rise ∙ ap (λ m. map.remove m id) (sym (ap set_of is) ∙ c.self.view_is))
