use Rattle.std.proofs.Common.{◌-◌, slice_get, ap, sym, ◌∙◌, arith}
use Rattle.std.specs.Option.{option_map}
use Rattle.std.proofs.lemmas.List.{length-map}
use Rattle.pg_rows.proofs.Leasts.{bound_found, firsts_again}
use Rattle.pg_rows.proofs.Orders.{below_order}
use Rattle.pg_rows.specs.LeastKeys.{least_of}
use Rattle.pg_rows.specs.Sorts.{directions_of, entries_view, entry_of}
use Rattle.pg_rows.proofs.least_keys.LeastSoFar.make_room.Goals as goal

pub returns : goal.returns
returns c = λ keyed h.
    let by = c.args.sorts.now in
    let ds = directions_of by in
    let m = c.args.most in
    let es = c.cut.new.entries.items in
    let long = c.in_ok-cut.ensures.len (omega (arith, c.len.ensures, c.room.ensures, c.if-len-room.false)) in
    let counted = length-map es (entry_of by) in
    record {
      same = ap (least_of m ds) c.in_ok-cut.ensures.least ∙ firsts_again (below_order ds) m (entries_view by c.args.self.now.entries.items) ∙ h.same;
      bound = bound_found ds m (entries_view by es) keyed _ (c.in_ok-cut.ensures.least ∙ h.same) (counted ∙ long) (c.last_row-self.ensures by ∙ ap (λ n. option_map (λ k. k.0) (slice_get (entries_view by es) (n - 1))) (sym counted));
    }
