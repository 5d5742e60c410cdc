use Rattle.std.proofs.Common.{Ok, Err, sym, ap, subst, ◌∙◌}
use Rattle.std.proofs.lemmas.Result.{on_ok_weaker}
use Rattle.pg_graph.specs.Links.{numbers}
use Rattle.pg_graph.specs.Sorted.{IsPlace, Rises}
use Rattle.pg_graph.proofs.Ids.{numbers_put, rises_of_numbers}
use Rattle.pg_graph.proofs.SortedLists.{put_missing}
use Rattle.pg_pool.proofs.ListPlaces.{put_there}
use Rattle.pg_pool.specs.Places.{ids_of}
use Rattle.pg_value_core.specs.declared.ids.RelId.{RelId}
use Rattle.pg_pool.proofs.links.put.Goals as goal

pub place-requires : goal.place-requires
place-requires c = subst (Rises (λ (r : RelId). r.0)) (sym c.as_slice.ensures) (rises_of_numbers (λ (r : RelId). r.0) (ids_of c.args.ids.now) c.requires)

pub insert-requires : goal.insert-requires
insert-requires c = (subst (λ xs. IsPlace (λ (r : RelId). r.0) c.args.id.0 xs (Err c.in-Err.at)) c.as_slice.ensures c.in-Err.ensures).0

pub returns-in-Ok-clause-ok : goal.returns-in-Ok-clause-ok
returns-in-Ok-clause-ok c =
    let items = ids_of c.args.ids.now in
    let at : IsPlace (λ (r : RelId). r.0) c.args.id.0 items (Ok c.in-Ok._there) = subst (λ xs. IsPlace (λ (r : RelId). r.0) c.args.id.0 xs (Ok c.in-Ok._there)) c.as_slice.ensures c.in-Ok.ensures in
    sym (put_there c.args.id.0 items c.in-Ok._there c.requires at.0 at.1)

pub returns-in-Err-clause-ok : goal.returns-in-Err-clause-ok
returns-in-Err-clause-ok c =
    let items = ids_of c.args.ids.now in
    let at : IsPlace (λ (r : RelId). r.0) c.args.id.0 items (Err c.in-Err.at) = subst (λ xs. IsPlace (λ (r : RelId). r.0) c.args.id.0 xs (Err c.in-Err.at)) c.as_slice.ensures c.in-Err.ensures in
    on_ok_weaker c.insert.result (λ is. ap numbers (is ∙ sym (put_missing (λ (r : RelId). r.0) c.args.id items c.in-Err.at at.0 at.1)) ∙ numbers_put (λ (r : RelId). r.0) c.args.id items) c.insert.ensures.ok
