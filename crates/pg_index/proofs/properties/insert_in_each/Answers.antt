use Rattle.std.proofs.Common.{◌≡◌, ◌<◌, ◌==◌, true, length, take, get_or, add-one, arith, sym, ap, subst, ◌∙◌}
use Rattle.std.proofs.Math.ListN.{set}
use Rattle.std.specs.Prelude.{◌&&◌, ◌||◌}
use Rattle.pg_index.proofs.PropertyLemmas.{Gains, comes_on, done_step, one_covered, set_comes, set_grows, set_pairs}
use Rattle.pg_index.proofs.properties.insert_in_each.Goals as goal
use Rattle.pg_index.specs.Properties.{all_find, finds, is_found_by, some_finds}

pub returns-in_err-insert_id-clause-pairs : goal.returns-in_err-insert_id-clause-pairs
returns-in_err-insert_id-clause-pairs c =
    let y = c.insert_id.new.self in
    let d = c.property-item.result in
    let item = get_or c.loop-property.indexes c.loop-property.property-index d in
    let gains : Gains item y = record { label = c.insert_id.ensures.label; key = c.insert_id.ensures.key; grown = c.insert_id.ensures.grown } in
    set_pairs c.loop-property.indexes c.loop-property.property-index y d gains ∙ c.loop-property.invariant.pairs

pub returns-in_err-insert_id-clause-grown : goal.returns-in_err-insert_id-clause-grown
returns-in_err-insert_id-clause-grown c = λ label key v i h.
    let y = c.insert_id.new.self in
    let d = c.property-item.result in
    let item = get_or c.loop-property.indexes c.loop-property.property-index d in
    let gains : Gains item y = record { label = c.insert_id.ensures.label; key = c.insert_id.ensures.key; grown = c.insert_id.ensures.grown } in
    set_grows c.loop-property.indexes c.loop-property.property-index y d label key v i gains (c.loop-property.invariant.grown label key v i h)

pub returns-in_err-insert_id-clause-come : goal.returns-in_err-insert_id-clause-come
returns-in_err-insert_id-clause-come c = λ label key v i h.
    let y = c.insert_id.new.self in
    let d = c.property-item.result in
    let xs = c.loop-property.indexes in
    let at = c.loop-property.property-index in
    let n = c.args.node.now in
    let item = get_or xs at d in
    comes_on (some_finds xs label key v i) (some_finds c.args.indexes.now label key v i) (is_found_by label key v n && i == c.args.id) (c.loop-property.invariant.come label key v i)
    (set_comes xs at y d n c.args.id label key v i c.insert_id.ensures.label c.insert_id.ensures.key
    (λ found. ap (λ l. finds item v i || (is_found_by l y.key v n && i == c.args.id)) c.insert_id.ensures.label ∙ ap (λ k. finds item v i || (is_found_by item.label k v n && i == c.args.id)) c.insert_id.ensures.key ∙ c.insert_id.ensures.come v i found) h)

pub loop-property-preserved : goal.loop-property-preserved
loop-property-preserved c =
    let y = c.insert_id.new.self in
    let d = c.property-item.result in
    let xs = c.loop-property.indexes in
    let at = c.loop-property.property-index in
    let n = c.args.node.now in
    let item = get_or xs at d in
    let gains : Gains item y = record { label = c.insert_id.ensures.label; key = c.insert_id.ensures.key; grown = c.insert_id.ensures.grown } in
    let within : at < length xs = omega (arith, c.loop-property-test.true, c.loop-property.auto.indexes) in
    record {
      pairs = set_pairs xs at y d gains ∙ c.loop-property.invariant.pairs;
      grown = λ label key v i h. set_grows xs at y d label key v i gains (c.loop-property.invariant.grown label key v i h);
      come = λ label key v i h.
          comes_on (some_finds xs label key v i) (some_finds c.args.indexes.now label key v i) (is_found_by label key v n && i == c.args.id) (c.loop-property.invariant.come label key v i)
          (set_comes xs at y d n c.args.id label key v i gains.label gains.key
          (λ found. ap (λ l. finds item v i || (is_found_by l y.key v n && i == c.args.id)) gains.label ∙ ap (λ k. finds item v i || (is_found_by item.label k v n && i == c.args.id)) gains.key ∙ c.insert_id.ensures.come v i found) h);
      done = λ label key v h.
          subst (λ k. all_find (take k (set xs at y)) label key v c.args.id ≡ true) (sym (add-one at))
          (done_step xs at y label key v c.args.id within (c.loop-property.invariant.done label key v h)
          (one_covered y n c.args.id label key v
          (λ w found. c.in_ok-insert_id.ensures.ok w (ap (λ l. is_found_by l item.key w n) (sym gains.label) ∙ ap (λ k. is_found_by y.label k w n) (sym gains.key) ∙ found)) h));
    }
