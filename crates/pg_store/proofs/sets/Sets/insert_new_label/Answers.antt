use Rattle.std.proofs.lemmas.Result.{on_ok_weaker}
use Rattle.pg_store.proofs.CoverLemmas.{grows_on}
use Rattle.pg_store.proofs.GainLemmas.{gains_then}
use Rattle.pg_store.proofs.SetLemmas.{values_grow}
use Rattle.pg_store.proofs.sets.Sets.insert_new_label.Goals as goal
use Rattle.pg_store.specs.Covers.{has_in, with_label}

pub returns : goal.returns
returns c =
    let old = c.insert_label.new.self in
    let new = c.insert_values.new.self in
    let values = c.insert_values.ensures in
    let grows = values_grow old new values.all values.labels values.grown in
    record {
      grown = grows_on (has_in c.args.self.now) (has_in old) (has_in new) c.insert_label.ensures.grown grows;
      gains = gains_then c.args.self.now old new c.insert_label.ensures.gains values.gains;
      label = on_ok_weaker c.insert_values.result (λ found. grows (with_label c.args.label) c.args.id c.in_ok-insert_label.ensures.ok) values.ok;
      values = values.ok;
    }
