use Rattle.std.proofs.Common.{◌≡◌, ◌-◌, drop, take, length, sym, ap, ◌∙◌, arith}
use Rattle.std.proofs.lemmas.List.{length-drop, take_all}
use Rattle.pg_expr.proofs.ChainLemmas.{conjuncts_from}
use Rattle.pg_expr.proofs.KnownLemmas.{left_in_chain}
use Rattle.pg_meaning.specs.Conditions.{conjuncts}
use Rattle.pg_syntax_tree.specs.View.{expression_view}
use Rattle.pg_expr.proofs.conditions.operands_from.Goals as goal

pub returns-in-Some : goal.returns-in-Some
returns-in-Some c = λ first ks some many.
    let at = c.args.at in
    let os = c.in-Some.operands.now.items in
    let xs = c.deref.result.now in
    let whole : take (length xs - at) (drop at xs) ≡ drop at xs = take_all (length xs - at) (drop at xs) (omega (arith, length-drop at xs)) in
    left_in_chain first ks (conjuncts (expression_view c.args.expression.now)) (expression_view c.in-Some.field-0-0.now.value) os some c.in-Some.ensures.some
    ∙ ap (λ n. conjuncts_from (drop n os)) many
    ∙ ap (λ ys. conjuncts_from (drop at ys)) (sym c.deref.ensures.value)
    ∙ ap conjuncts_from (sym whole)
