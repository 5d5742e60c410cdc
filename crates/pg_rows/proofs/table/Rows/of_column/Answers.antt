use Rattle.std.proofs.Common.{◌≡◌, length, map, rules, sym, ap, ◌∙◌}
use Rattle.std.proofs.lemmas.List.{length-map}
use Rattle.pg_value_core.specs.View.{view}
use Rattle.pg_rows.proofs.Tabled.{one_column}
use Rattle.pg_rows.specs.Tables.{rows_of}
use Rattle.pg_rows.proofs.table.Rows.of_column.Goals as goal

pub returns-clause-rows : goal.returns-clause-rows
returns-clause-rows c =
    let vs = c.args.values.items in
    let counted : c.len-count.result ≡ length vs = search rules in
    ap (λ n. rows_of 1 n (map view vs)) (counted ∙ sym (length-map vs view)) ∙ one_column (map view vs)
