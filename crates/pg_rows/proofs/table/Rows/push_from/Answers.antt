use Rattle.std.proofs.Common.{◌≡◌, suc, ◌++◌, map, rules, ap, ◌∙◌}
use Rattle.std.proofs.lemmas.List.{length-map}
use Rattle.pg_value_core.specs.View.{view}
use Rattle.pg_rows.specs.Tables.{rows_of}
use Rattle.pg_rows.proofs.Tabled.{map_append, rows_push}
use Rattle.pg_rows.proofs.table.Rows.push_from.Goals as goal

pub returns-clause-rows : goal.returns-clause-rows
returns-clause-rows c =
    let r = c.args.self.now in
    let items : c.append.new.self.items ≡ r.values.items ++ c.args.row.now.items = c.in_ok-append.ensures.items in
    let count : c.in-Some.count ≡ suc r.count = search rules in
    (λ i. rows_of r.width (count i) (map view (items i)))
    ∙ ap (rows_of r.width (suc r.count)) (map_append view r.values.items c.args.row.now.items)
    ∙ rows_push r.width r.count (map view r.values.items) (map view c.args.row.now.items) (length-map r.values.items view ∙ r.sized) (length-map c.args.row.now.items view ∙ c.requires)
