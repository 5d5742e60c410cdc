use Rattle.std.proofs.Common.{◌≡◌, false, map, Ok, ap, ◌∙◌}
use Rattle.pg_expr.proofs.KnownLemmas.{false_anyway}
use Rattle.pg_expr.specs.KnownConjuncts.{known_given, known_list, left_of}
use Rattle.pg_expr.specs.Prepared.{condition_of, names_of, parameters_of}
use Rattle.pg_meaning.specs.Conditions.{all_true, conjuncts_of}
use Rattle.pg_rows.specs.Named.{row_of}
use Rattle.pg_value_core.specs.View.{view}
use Rattle.pg_expr.proofs.conditions.condition.Goals as goal

pub returns-in-Some-false : goal.returns-in-Some-false
returns-in-Some-false g c =
    let p = c.args.prepared.now in
    let graph = c.args.graph.now in
    let values = map view c.args.row.now in
    let rest = all_true (row_of (names_of p) values) (parameters_of p) graph (left_of p.known (conjuncts_of (condition_of p))) in
    let untrue : known_given p.known values graph ≡ Ok false = c.in-Some-false.ensures ∙ ap Ok c.in-Some-false.field-0-test in
    record { ok = p.are_known.0 values graph ∙ false_anyway values graph (known_list p.known) rest untrue; err = tt }
