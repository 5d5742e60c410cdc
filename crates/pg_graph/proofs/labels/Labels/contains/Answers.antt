use Rattle.std.proofs.Common.{◌==◌, ap, subst, ◌∙◌}
use Rattle.std.specs.List.{list_any}
use Rattle.pg_graph.specs.Labels.{names_of}
use Rattle.pg_graph.specs.Sorted.{IsPlace}
use Rattle.pg_graph.proofs.SortedLists.{any_placed}
use Rattle.pg_graph.proofs.labels.Labels.contains.Goals as goal

pub returns : goal.returns
returns c =
    let names = names_of c.self.inside.held in
    let at : IsPlace (λ n. n) c.args.name names c.place.result =
    subst (λ k. IsPlace (λ n. n) k names c.place.result) c.number.ensures (subst (λ xs. IsPlace (λ n. n) c.number.result xs c.place.result) c.as_slice.ensures c.place.ensures) in
    c.is_ok.ensures.value ∙ any_placed (λ n. n) c.args.name names c.place.result at ∙ ap (list_any (λ n. n == c.args.name)) c.self.view_is
