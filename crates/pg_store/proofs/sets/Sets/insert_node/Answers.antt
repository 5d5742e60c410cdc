use Rattle.std.proofs.Common.{refl}
use Rattle.std.proofs.lemmas.Result.{on_ok_weaker}
use Rattle.pg_store.proofs.CoverLemmas.{grows_on, all_covered}
use Rattle.pg_store.proofs.GainLemmas.{gains_then}
use Rattle.pg_store.proofs.SetLemmas.{values_grow}
use Rattle.pg_store.proofs.sets.Sets.insert_node.Goals as goal
use Rattle.pg_store.specs.Covers.{has_in}

pub returns : goal.returns
returns c =
    let old = c.insert_labels.new.self in
    let new = c.insert_values.new.self in
    let values = c.insert_values.ensures in
    let grows = values_grow old new values.all values.labels values.grown in
    record {
      grown = grows_on (has_in c.args.self.now) (has_in old) (has_in new) c.insert_labels.ensures.grown grows;
      gains = gains_then c.args.self.now old new c.insert_labels.ensures.gains values.gains;
      ok = on_ok_weaker c.insert_values.result (λ found. all_covered (has_in old) (has_in new) c.args.node.now c.args.id grows (λ k number. c.in_ok-insert_labels.ensures.ok c.args.node.now k refl number) found) values.ok;
    }
