use Rattle.std.proofs.Common.{◌≡◌, ◌++◌, drop}
use Rattle.pg_project.specs.Items.{aggregates_in, are_aggregates, expressions_view, keys_in}
use Rattle.pg_project.specs.ReadyItems.{aggregates_view, keys_of}
use Rattle.pg_project.proofs.items.Items.new.Given as goal

abbrev pub invariant-loop-expression : goal.invariant-loop-expression
invariant-loop-expression l =
    let es = expressions_view l.expressions.items in
    let left = expressions_view (drop l.expression-index l.expressions.items) in
    record {
      keys : keys_of l.names l.items.keys.items ++ keys_in left ≡ keys_in es;
      aggregates : aggregates_view l.names l.items.aggregates.items ++ aggregates_in left ≡ aggregates_in es;
      kinds : l.items.are_aggregates.items ++ are_aggregates left ≡ are_aggregates es;
    }
