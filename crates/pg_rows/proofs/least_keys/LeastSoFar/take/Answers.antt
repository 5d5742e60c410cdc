use Rattle.std.proofs.Common.{◌≡◌, ◌++◌, ◌∷◌, [], map, ap, sym, ◌∙◌}
use Rattle.pg_rows.proofs.Leasts.{Placed, none_wanted, still_bounds, bound_stays, one_later}
use Rattle.pg_rows.proofs.Orders.{below_order}
use Rattle.pg_rows.proofs.Tabled.{map_append}
use Rattle.pg_value_core.specs.View.{view}
use Rattle.pg_rows.specs.LeastKeys.{bound_view, least_of}
use Rattle.pg_rows.specs.Sorts.{directions_of, entries_view, entry_of, picked}
use Rattle.pg_rows.proofs.least_keys.LeastSoFar.take.Goals as goal

pub returns-then-is_behind : goal.returns-then-is_behind
returns-then-is_behind c = λ keyed h.
    let by = c.args.sorts.now in
    let ds = directions_of by in
    let m = c.args.most in
    let key : Placed = (picked by (map view c.args.row.now), c.args.place) in
    let unchanged : least_of m ds keyed ≡ least_of m ds (keyed ++ key ∷ []) = none_wanted ds m keyed key (bound_view by c.args.self.now.bound) (sym c.is_behind.ensures ∙ c.if-is_behind.true) h.bound in
    record {
      same = h.same ∙ unchanged;
      bound = bound_stays ds m keyed (keyed ++ key ∷ []) (bound_view by c.args.self.now.bound) unchanged h.bound;
    }

pub returns : goal.returns
returns c = λ keyed h.
    let by = c.args.sorts.now in
    let ds = directions_of by in
    let m = c.args.most in
    let key : Placed = (picked by (map view c.args.row.now), c.args.place) in
    let now = c.make_room.new.self in
    let made = c.in_ok-make_room.ensures keyed h in
    record {
      same =
          ap (λ es. least_of m ds (entries_view by es)) c.in_ok-push.ensures.items
          ∙ ap (least_of m ds) (map_append (entry_of by) now.entries.items ((c.args.row, c.args.place) ∷ []))
          ∙ one_later (below_order ds) m (entries_view by now.entries.items) keyed key made.same;
      bound = still_bounds ds m keyed key (bound_view by now.bound) made.bound;
    }
