use Rattle.std.proofs.Common.{◌≡◌, map, sym, ap, ◌∙◌}
use Rattle.std.specs.Prelude.{not, option_map}
use Rattle.pg_expr.proofs.ChainLemmas.{conjuncts_from}
use Rattle.pg_expr.proofs.KnownLemmas.{true_then}
use Rattle.pg_expr.proofs.Turns.{gives_by}
use Rattle.pg_expr.specs.Conditions.{all_met_by}
use Rattle.pg_expr.specs.KnownConjuncts.{known_list, left_of}
use Rattle.pg_expr.specs.Prepared.{condition_of, names_of, parameters_of}
use Rattle.pg_meaning.specs.Conditions.{all_true, conjuncts, conjuncts_of}
use Rattle.pg_rows.specs.Named.{row_of}
use Rattle.pg_syntax_tree.specs.View.{expression_view}
use Rattle.pg_value_core.specs.View.{view}
use Rattle.pg_expr.proofs.conditions.condition_left.Goals as goal

pub returns-in-Some-operands_from : goal.returns-in-Some-operands_from
returns-in-Some-operands_from g c =
    let p = c.args.prepared.now in
    let graph = c.args.graph.now in
    let values = map view c.args.row.now in
    let row = row_of (names_of p) values in
    let ps = parameters_of p in
    let es = conjuncts_of (condition_of p) in
    let behind = conjuncts_from c.in-Some-operands_from.operands.now in
    let is : es ≡ conjuncts (expression_view c.in-Some.whole.now) = ap (λ o. conjuncts_of (option_map (λ e. expression_view e.now) o)) c.in-Some.is in
    let left : left_of p.known es ≡ behind =
    ap (left_of p.known) is ∙ c.in-Some-operands_from.ensures p.known.first p.known.others.items (c.is_none.ensures ∙ ap not c.if-is_none.false) (sym (c.len.ensures ∙ p.known.others.ok.0)) in
    let whole : all_true row ps graph es ≡ all_true row ps graph behind =
    p.are_known.0 values graph
    ∙ true_then values graph (known_list p.known) (all_true row ps graph (left_of p.known es)) c.requires
    ∙ ap (all_true row ps graph) left in
    let here : all_true row ps graph behind ≡ all_met_by c.context_at-context.result graph behind =
    λ i. all_true (sym c.context_at-context.ensures.row i) (sym c.context_at-context.ensures.parameters i) graph behind in
    gives_by c.operands_met.result (whole ∙ here) (record { ok = c.operands_met.ensures.ok; err = c.operands_met.ensures.err })
