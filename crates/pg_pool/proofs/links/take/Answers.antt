use Rattle.std.proofs.Common.{Ok, Err, sym, ap, subst, ◌∙◌}
use Rattle.pg_graph.specs.Links.{numbers}
use Rattle.pg_graph.specs.Sorted.{IsPlace, Rises}
use Rattle.pg_graph.proofs.Ids.{numbers_without, rises_of_numbers}
use Rattle.pg_graph.proofs.SortedLists.{without_found, without_missing}
use Rattle.pg_pool.specs.Places.{ids_of}
use Rattle.pg_value_core.specs.declared.ids.RelId.{RelId}
use Rattle.pg_pool.proofs.links.take.Goals as goal

pub place-requires : goal.place-requires
place-requires c = subst (Rises (λ (r : RelId). r.0)) (sym c.as_slice.ensures) (rises_of_numbers (λ (r : RelId). r.0) (ids_of c.args.ids.now) c.requires)

pub remove-requires : goal.remove-requires
remove-requires c = (subst (λ xs. IsPlace (λ (r : RelId). r.0) c.args.id.0 xs (Ok c.in-Ok.at)) c.as_slice.ensures c.in-Ok.ensures).0

pub returns-in-Ok : goal.returns-in-Ok
returns-in-Ok c =
    let items = ids_of c.args.ids.now in
    let at : IsPlace (λ (r : RelId). r.0) c.args.id.0 items (Ok c.in-Ok.at) = subst (λ xs. IsPlace (λ (r : RelId). r.0) c.args.id.0 xs (Ok c.in-Ok.at)) c.as_slice.ensures c.in-Ok.ensures in
    ap numbers (c.remove.ensures ∙ sym (without_found (λ (r : RelId). r.0) c.args.id.0 items c.in-Ok.at (rises_of_numbers (λ (r : RelId). r.0) items c.requires) at.0 at.1))
    ∙ numbers_without (λ (r : RelId). r.0) c.args.id.0 items

pub returns-in_default : goal.returns-in_default
returns-in_default c =
    let items = ids_of c.args.ids.now in
    let at : IsPlace (λ (r : RelId). r.0) c.args.id.0 items (Err c.in_default.field-0) = subst (λ xs. IsPlace (λ (r : RelId). r.0) c.args.id.0 xs (Err c.in_default.field-0)) c.as_slice.ensures c.in_default.ensures in
    ap numbers (sym (without_missing (λ (r : RelId). r.0) c.args.id.0 items c.in_default.field-0 at.1)) ∙ numbers_without (λ (r : RelId). r.0) c.args.id.0 items
