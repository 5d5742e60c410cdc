use Rattle.std.proofs.Common.{◌≡◌, ap, rules}
use Rattle.std.proofs.lemmas.Fn.{always_returns_same}
use Rattle.std.proofs.lemmas.Result.{on_ok_weaker}
use Rattle.std.specs.Ordering.{is_lt}
use Rattle.pg_rows.proofs.Keyed.{entry_order, entries_sorted}
use Rattle.pg_rows.specs.Sorts.{directions_of, entry_of, keyed_below, key_order}
use Rattle.pg_rows.proofs.sorts.sort_entries.Goals as goal

pub returns-clause-sorted : goal.returns-clause-sorted
returns-clause-sorted c =
    let by = c.args.sorts.now in
    let ds = directions_of by in
    on_ok_weaker c.sort_by.result
    (λ up. entries_sorted by c.args.entries.now.items c.sort_by.new.self.items
    (up (λ a b. keyed_below ds (entry_of by a) (entry_of by b)) (entry_order by) (always_returns_same _ _ _ (λ a r f' q. (let e : r ≡ key_order ds (entry_of by a.0.now).0 (entry_of by a.1.0.now).0 = search rules in ap is_lt e, search rules))))
    (c.sort_by.ensures.stable (λ a b. keyed_below ds (entry_of by a) (entry_of by b)) (entry_order by) (always_returns_same _ _ _ (λ a r f' q. (let e : r ≡ key_order ds (entry_of by a.0.now).0 (entry_of by a.1.0.now).0 = search rules in ap is_lt e, search rules)))))
    c.sort_by.ensures.sorted
