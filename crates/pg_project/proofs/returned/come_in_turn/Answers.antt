use Rattle.std.proofs.Common.{rules, ◌≡◌, length, map, ap}
use Rattle.pg_project.proofs.NoneStarred.{items_alone}
use Rattle.pg_rows.proofs.Tabled.{no_values}
use Rattle.pg_syntax_tree.specs.View.{projection_view, sort_item_view}
use Rattle.pg_project.proofs.returned.come_in_turn.Goals as goal

pub returns-then-is_empty : goal.returns-then-is_empty
returns-then-is_empty c = λ scope turns.
    let alone = items_alone scope (projection_view c.args.projection.now) in
    let sorts = c.args.projection.now.order.items in
    let none : length sorts ≡ 0 = search rules in
    record {
      distinct = search rules;
      order = ap (map sort_item_view) (no_values sorts none);
      apart = search (rules, alone, turns);
    }
