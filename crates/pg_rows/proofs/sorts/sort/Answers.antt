use Rattle.std.proofs.Common.{◌≡◌, length, map, ap, ◌∙◌}
use Rattle.pg_rows.proofs.Keyed.{known_of, places_in}
use Rattle.pg_rows.proofs.Picked.{picked_below}
use Rattle.pg_rows.proofs.Places.{sorted_below}
use Rattle.pg_rows.specs.Sorts.{directions_of, keyed_below, picked, sorted_by, sorted_places}
use Rattle.pg_rows.specs.Tables.{table, EachBelow}
use Rattle.pg_rows.proofs.sorts.sort.Goals as goal

pub returns-clause-places : goal.returns-clause-places
returns-clause-places c =
    let by = c.args.sorts.now in
    let es = c.sort_entries.new.entries.items in
    let same : map (λ e. e.1) es ≡ sorted_places (directions_of by) (map (picked by) (table c.args.rows.now)) = places_in by es ∙ ap (map (λ k. k.1)) (c.in_ok-sort_entries.ensures.sorted ∙ ap (sorted_by (keyed_below (directions_of by))) (c.in_ok-entries.ensures by)) in
    known_of c.places_of.result (λ ps. ps ≡ sorted_places (directions_of by) (map (picked by) (table c.args.rows.now))) (map (λ e. e.1) es) same c.places_of.ensures

pub returns-clause-below : goal.returns-clause-below
returns-clause-below c =
    let by = c.args.sorts.now in
    let keys = map (picked by) (table c.args.rows.now) in
    known_of c.places_of.result (EachBelow (length (table c.args.rows.now))) (sorted_places (directions_of by) keys) (picked_below by (table c.args.rows.now) _ (sorted_below (directions_of by) keys)) (returns-clause-places c)
