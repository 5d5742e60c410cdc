use Rattle.std.proofs.Common.{◌≡◌, Ok, Err, sym, ap, subst, ◌∙◌}
use Rattle.pg_graph.specs.Sorted.{IsPlace, Rises}
use Rattle.pg_graph.specs.Links.{without_id}
use Rattle.pg_graph.proofs.SortedLists.{without_found, without_missing}
use Rattle.pg_graph.proofs.runs.Run.remove_id.Goals as goal

pub returns-in-Ok : goal.returns-in-Ok
returns-in-Ok c =
    let items = c.self.inside.ids.items in
    let at : IsPlace (λ n. n) c.args.id items (Ok c.in-Ok.place) = subst (λ xs. IsPlace (λ n. n) c.args.id xs (Ok c.in-Ok.place)) c.as_slice.ensures.value c.in-Ok.ensures in
    c.remove.ensures.items
    ∙ sym (without_found (λ n. n) c.args.id items c.in-Ok.place (subst (Rises (λ n. n)) (sym c.self.view_is) c.requires) at.0 at.1)
    ∙ ap (without_id c.args.id) c.self.view_is

pub returns-in_default : goal.returns-in_default
returns-in_default c =
    let items = c.self.inside.ids.items in
    let at : IsPlace (λ n. n) c.args.id items (Err c.in_default.field-0) = subst (λ xs. IsPlace (λ n. n) c.args.id xs (Err c.in_default.field-0)) c.as_slice.ensures.value c.in_default.ensures in
    subst (λ xs. xs ≡ without_id c.args.id xs) c.self.view_is (sym (without_missing (λ n. n) c.args.id items c.in_default.field-0 at.1))
