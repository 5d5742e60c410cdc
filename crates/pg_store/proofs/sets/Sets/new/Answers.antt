use Rattle.std.proofs.Common.{◌≡◌, ℕ, [], false, ap, ◌∙◌}
use Rattle.std.specs.FinMap as map
use Rattle.std.specs.Ordering.{nat_cmp}
use Rattle.pg_graph.proofs.Removed.{has_none}
use Rattle.pg_graph.specs.Removed.{Ids, has_id}
use Rattle.pg_index.specs.Index.{ids_at}
use Rattle.pg_index.specs.Properties.{some_finds}
use Rattle.pg_store.proofs.sets.Sets.new.Goals as goal
use Rattle.pg_store.specs.Covers.{Key, every, with_label, with_value}
use Rattle.pg_store.specs.Noted.{is_in}
use Rattle.pg_store.specs.declared.sets.Sets.{Sets}

nothing_in : (sets : Sets) → sets.all ≡ map.empty → ((l : ℕ) → ids_at nat_cmp sets.labels l ≡ map.empty) → sets.indexes.items ≡ [] → (k : Key) (i : ℕ) → is_in sets k i ≡ false
nothing_in sets all labels indexes every i = ap (λ (ids : Ids). has_id ids i) all ∙ has_none i
nothing_in sets all labels indexes (with_label l) i = ap (λ (ids : Ids). has_id ids i) (labels l) ∙ has_none i
nothing_in sets all labels indexes (with_value l k v) i = ap (λ xs. some_finds xs l k v i) indexes

pub returns-clause-none : goal.returns-clause-none
returns-clause-none c = nothing_in (record { alloc = c.args.alloc; all = c.new.result; labels = c.new-2.result; indexes = c.new-3.result; stale_ids = c.new-4.result; none = c.new-5.result; none_is_empty = c.new-5.ensures }) c.new.ensures c.new-2.ensures c.new-3.ensures.items
