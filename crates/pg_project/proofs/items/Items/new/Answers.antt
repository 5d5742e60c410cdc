use Rattle.std.proofs.Common.{[], ◌∷◌, ◌++◌, refl}
use Rattle.pg_project.proofs.Apart.{aggregate_first, all_taken, key_first, one_taken}
use Rattle.pg_project.specs.Items.{aggregates_in, are_aggregates, before_aggregates, before_keys, expressions_view, is_aggregate, item_of, keys_in}
use Rattle.pg_project.specs.ReadyItems.{aggregates_view, item_view, keys_of}
use Rattle.pg_project.proofs.items.Items.new.Goals as goal

pub loop-expression-init : goal.loop-expression-init
loop-expression-init c =
    let names = c.args.names.now in
    let es = expressions_view c.args.expressions.now.items in
    record {
      keys = λ i. keys_of names (c.new.ensures.items i) ++ keys_in es;
      aggregates = λ i. aggregates_view names (c.new-2.ensures.items i) ++ aggregates_in es;
      kinds = λ i. c.new-3.ensures.items i ++ are_aggregates es;
    }

pub loop-expression-preserved : goal.loop-expression-preserved
loop-expression-preserved c =
    let names = c.args.names.now in
    let lent = c.deref-expression-items.result.now in
    let es = c.args.expressions.now.items in
    let same = c.deref-expression-items.ensures.value in
    let l = c.loop-expression in
    let e = c.expression-item in
    let within = c.loop-expression-test.true in
    let item = item_view names c.in_ok-prepare_item.field-0 in
    let made = c.in_ok-prepare_item.ensures in
    let now = c.push.new.self in
    record {
      keys = one_taken keys_in lent es same l.expression-index (keys_of names l.items.keys.items) l.invariant.keys
          (λ i. before_keys i []) (λ x rest. key_first (item_of x) (keys_in rest)) e.result within e.is item made (keys_of names now.keys.items) (c.in_ok-push.ensures.keys names);
      aggregates = one_taken aggregates_in lent es same l.expression-index (aggregates_view names l.items.aggregates.items) l.invariant.aggregates
          (λ i. before_aggregates i []) (λ x rest. aggregate_first (item_of x) (aggregates_in rest)) e.result within e.is item made (aggregates_view names now.aggregates.items) (c.in_ok-push.ensures.aggregates names);
      kinds = one_taken are_aggregates lent es same l.expression-index l.items.are_aggregates.items l.invariant.kinds
          (λ i. is_aggregate i ∷ []) (λ x rest. refl) e.result within e.is item made now.are_aggregates.items (c.in_ok-push.ensures.kinds names);
    }

pub returns : goal.returns
returns c =
    let names = c.args.names.now in
    let lent = c.deref-expression-items.result.now in
    let es = c.args.expressions.now.items in
    let same = c.deref-expression-items.ensures.value in
    let l = c.loop-expression in
    let past = c.loop-expression-test.false in
    record {
      keys = all_taken keys_in lent es same l.expression-index (keys_of names l.items.keys.items) l.invariant.keys refl past;
      aggregates = all_taken aggregates_in lent es same l.expression-index (aggregates_view names l.items.aggregates.items) l.invariant.aggregates refl past;
      kinds = all_taken are_aggregates lent es same l.expression-index l.items.are_aggregates.items l.invariant.kinds refl past;
    }
