use Rattle.std.proofs.Common.{◌≡◌, take, length, map, ap, subst, sym, ◌∙◌}
use Rattle.pg_rows.proofs.Keyed.{known_of, places_in}
use Rattle.pg_rows.proofs.Leasts.{least_below, places_least}
use Rattle.pg_rows.proofs.Picked.{picked_below}
use Rattle.pg_rows.specs.Sorts.{directions_of, least_places, picked}
use Rattle.pg_rows.specs.Tables.{table, EachBelow}
use Rattle.pg_rows.proofs.least_keys.least.Goals as goal

pub returns-then-most-len-clause-below : goal.returns-then-most-len-clause-below
returns-then-most-len-clause-below c =
    let by = c.args.sorts.now in
    let rows = table c.args.rows.now in
    subst (EachBelow (length rows)) (sym (c.truncate.ensures.items ∙ ap (take c.args.most) c.in_ok-places.ensures.places)) (picked_below by rows _ (least_below c.args.most (directions_of by) (map (picked by) rows)))

pub returns-clause-places : goal.returns-clause-places
returns-clause-places c =
    let by = c.args.sorts.now in
    let ds = directions_of by in
    let keys = map (picked by) (table c.args.rows.now) in
    let es = c.in_ok-entries.entries.items in
    let same : map (λ e. e.1) es ≡ least_places c.args.most ds keys = places_in by es ∙ ap (map (λ k. k.1)) c.in_ok-entries.ensures ∙ places_least c.args.most ds keys in
    known_of c.places_of.result (λ ps. ps ≡ least_places c.args.most ds keys) (map (λ e. e.1) es) same c.places_of.ensures

pub returns-clause-below : goal.returns-clause-below
returns-clause-below c =
    let by = c.args.sorts.now in
    let ds = directions_of by in
    let rows = table c.args.rows.now in
    known_of c.places_of.result (EachBelow (length rows)) (least_places c.args.most ds (map (picked by) rows)) (picked_below by rows _ (least_below c.args.most ds (map (picked by) rows))) (returns-clause-places c)
