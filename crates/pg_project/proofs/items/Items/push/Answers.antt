use Rattle.std.proofs.Common.{[], ◌∷◌, ◌++◌, append-nil, sym, ap, ◌∙◌}
use Rattle.pg_expr.specs.Prepared.{tree_of}
use Rattle.pg_project.proofs.Turns.{map_behind}
use Rattle.pg_project.specs.Items.{before_aggregates, before_keys, is_aggregate}
use Rattle.pg_project.specs.ReadyItems.{aggregate_view, aggregates_view, item_view, keys_of}
use Rattle.pg_project.proofs.items.Items.push.Goals as goal

pub returns-in_ok-push-in-Key-2 : goal.returns-in_ok-push-in-Key-2
returns-in_ok-push-in-Key-2 c =
    let old = c.args.self.now in
    let is = sym c.in-Key.is in
    record {
      keys = λ names. ap (keys_of names) c.in_ok-push-in-Key.ensures.items ∙ map_behind (tree_of names) old.keys.items c.in-Key.key ∙ ap (λ i. keys_of names old.keys.items ++ before_keys (item_view names i) []) is;
      aggregates = λ names. sym (append-nil (aggregates_view names old.aggregates.items)) ∙ ap (λ i. aggregates_view names old.aggregates.items ++ before_aggregates (item_view names i) []) is;
      kinds = λ names. c.in_ok-push-in-Key-2.ensures.items ∙ ap (λ i. old.are_aggregates.items ++ is_aggregate (item_view names i) ∷ []) is;
    }

pub returns-in_ok-push-in-Aggregate-2 : goal.returns-in_ok-push-in-Aggregate-2
returns-in_ok-push-in-Aggregate-2 c =
    let old = c.args.self.now in
    let is = sym c.in-Aggregate.is in
    record {
      keys = λ names. sym (append-nil (keys_of names old.keys.items)) ∙ ap (λ i. keys_of names old.keys.items ++ before_keys (item_view names i) []) is;
      aggregates = λ names. ap (aggregates_view names) c.in_ok-push-in-Aggregate.ensures.items ∙ map_behind (aggregate_view names) old.aggregates.items c.in-Aggregate.aggregate ∙ ap (λ i. aggregates_view names old.aggregates.items ++ before_aggregates (item_view names i) []) is;
      kinds = λ names. c.in_ok-push-in-Aggregate-2.ensures.items ∙ ap (λ i. old.are_aggregates.items ++ is_aggregate (item_view names i) ∷ []) is;
    }
