use Rattle.std.proofs.Common.{◌≡◌, ◌+◌, true, false, Some, [], ◌∷◌, get_or, drop, map, sym, refl, ap, subst, ◌∙◌, None}
use Rattle.pg_expr.proofs.ScalarLemmas.{tells_by, then_told, then_told_by, both_told_by, told_is, at_end, next_told, nothing_follows, met_told, unmet_told, none_there}
use Rattle.pg_expr.proofs.Turns as turn
use Rattle.pg_expr.proofs.Walks.{chain_of, found_null, found_otherwise, found_when, in_case, true_of}
use Rattle.pg_expr.specs.Operators.{all_negated, truth_compared}
use Rattle.pg_expr.specs.Contexts.{given, given_chain, given_chained, given_compared, row_at, parameters_at}
use Rattle.pg_expr.specs.Scalars.{scalar_view, Chooses, ThenTells}
use Rattle.pg_meaning.specs.Answer.{◌>>=◌}
use Rattle.pg_meaning.specs.Expressions.{all_signed, or_fault}
use Rattle.pg_meaning.specs.Entries.{at_key}
use Rattle.pg_meaning.specs.Parse.{operands_of}
use Rattle.pg_meaning.specs.Rows.{value_in}
use Rattle.pg_meaning.specs.Tree as tree
use Rattle.pg_meaning.specs.declared.fault.Fault.TheVariants.{MissingParameter, UndefinedVariable}
use Rattle.pg_scope.proofs.FirstLemmas.{item_here, items_end}
use Rattle.pg_syntax_tree.proofs.Views.{chain_is, negation_is, signs_is}
use Rattle.pg_syntax_tree.specs.View.{expression_view, literal_view, operand_view}
use Rattle.pg_expr.proofs.scalar_evaluation.+scalar.Goals as goal

pub scalar-returns-in-Literal : goal.scalar-returns-in-Literal
scalar-returns-in-Literal g t c =
    let s = c.args.context.now in
    let graph = c.args.graph.now in
    told_is (literal_view c.in-Literal.held) c.literal.ensures (ap (λ e. given s graph (expression_view e)) c.in-Literal.is ∙ turn.of_literal s graph c.in-Literal.held)

pub scalar-returns-in-Parameter : goal.scalar-returns-in-Parameter
scalar-returns-in-Parameter g t c =
    let s = c.args.context.now in
    let graph = c.args.graph.now in
    tells_by (scalar_view c.parameter.result) (ap (λ e. given s graph (expression_view e)) c.in-Parameter.is ∙ turn.of_parameter s graph c.in-Parameter.name ∙ ap (λ k. or_fault (at_key k (parameters_at s)) MissingParameter) (sym c.as_str.ensures.value))
    c.parameter.ensures

pub scalar-returns-in-Variable : goal.scalar-returns-in-Variable
scalar-returns-in-Variable g t c =
    let s = c.args.context.now in
    let graph = c.args.graph.now in
    tells_by (scalar_view c.variable.result) (ap (λ e. given s graph (expression_view e)) c.in-Variable.is ∙ turn.of_variable s graph c.in-Variable.name ∙ ap (λ k. or_fault (value_in k (row_at s)) UndefinedVariable) (sym c.as_str-in-Variable.ensures.value))
    c.variable.ensures

pub scalar-returns-in-Parentheses : goal.scalar-returns-in-Parentheses
scalar-returns-in-Parentheses g t c =
    let s = c.args.context.now in
    let graph = c.args.graph.now in
    tells_by (scalar_view c.scalar.result) (ap (λ e. given s graph (expression_view e)) c.in-Parentheses.is ∙ turn.of_parentheses s graph c.in-Parentheses.inner ∙ ap (λ x. given s graph (expression_view x)) (sym c.deref.ensures)) c.scalar.ensures

pub scalar-returns-in-Negation : goal.scalar-returns-in-Negation
scalar-returns-in-Negation g t c =
    let s = c.args.context.now in
    let graph = c.args.graph.now in
    let a = c.in-Negation in
    let inner = c.deref-in-Negation.result.now in
    tells_by (scalar_view c.negated.result) (ap (λ e. given s graph (expression_view e)) a.is ∙ ap (λ e. given s graph e) (negation_is a.count a.inner) ∙ ap (λ x. given s graph (tree.negation a.count (expression_view x))) (sym c.deref-in-Negation.ensures))
    (then_told (scalar_view c.scalar-in-Negation.result) (scalar_view c.negated.result) (given s graph (expression_view inner)) (all_negated a.count) c.scalar-in-Negation.ensures c.negated.ensures)

pub scalar-returns-in-Signs : goal.scalar-returns-in-Signs
scalar-returns-in-Signs g t c =
    let s = c.args.context.now in
    let graph = c.args.graph.now in
    let a = c.in-Signs in
    let inner = c.deref-in-Signs.result.now in
    tells_by (scalar_view c.signed.result) (ap (λ e. given s graph (expression_view e)) a.is ∙ ap (λ e. given s graph e) (signs_is a.signs a.inner) ∙ ap (λ x. given s graph (tree.signs a.signs.items (expression_view x))) (sym c.deref-in-Signs.ensures))
    (then_told (scalar_view c.scalar-in-Signs.result) (scalar_view c.signed.result) (given s graph (expression_view inner)) (all_signed a.signs.items) c.scalar-in-Signs.ensures c.signed.ensures)

pub chain-returns-then-not-begins_comparison : goal.chain-returns-then-not-begins_comparison
chain-returns-then-not-begins_comparison g t c =
    let s = c.args.context.now in
    let graph = c.args.graph.now in
    let a = c.in-Chain in
    let os = operands_of (map operand_view a.operands.items) in
    tells_by (scalar_view c.joined.result)
    (ap (λ e. given s graph (expression_view e)) a.is ∙ ap (λ e. given s graph e) (chain_is a.first a.operands) ∙ ap (λ x. given s graph (expression_view x) >>= λ v. given_chained s graph v os) (sym c.deref.ensures))
    (then_told_by (scalar_view c.scalar-left.result) (scalar_view c.joined.result) (given s graph (expression_view c.deref.result.now)) (λ v. given_chain s graph v os) (λ v. given_chained s graph v os)
    (λ v. turn.of_others s graph v os (sym c.begins_comparison.ensures ∙ c.if-not-begins_comparison.true))
    c.scalar-left.ensures c.joined.ensures)

pub chain-returns-in-len1 : goal.chain-returns-in-len1
chain-returns-in-len1 g t c =
    let s = c.args.context.now in
    let graph = c.args.graph.now in
    let a = c.in-Chain in
    let os = operands_of (map operand_view a.operands.items) in
    let items = c.as_slice.result.now in
    let p = get_or items 0 c.index-operator-0.result in
    let q = get_or items 0 c.index-operand-0.result in
    let operand = given s graph (expression_view q.1) in
    tells_by (scalar_view c.compared.result)
    (ap (λ e. given s graph (expression_view e)) a.is ∙ ap (λ e. given s graph e) (chain_is a.first a.operands) ∙ ap (λ x. given s graph (expression_view x) >>= λ v. given_chained s graph v os) (sym c.deref.ensures))
    (both_told_by (scalar_view c.scalar-left.result) (scalar_view c.scalar.result) (scalar_view c.compared.result) (given s graph (expression_view c.deref.result.now)) operand
    (λ v w. truth_compared v ((p.0, w) ∷ [])) (λ v. given_chained s graph v os)
    (λ v. turn.of_comparisons s graph v os (sym c.begins_comparison.ensures ∙ c.if-not-begins_comparison.false)
    ∙ ap (given_compared s graph v) (turn.one_left items a.operands.items p q c.as_slice.ensures.value c.in-len1.len_at_least c.in-len1.len_below (ap (get_or items 0) c.index-operator-0.is) (ap (get_or items 0) c.index-operand-0.is))
    ∙ turn.one_operand v p.0 operand)
    c.scalar-left.ensures c.scalar.ensures c.compared.ensures)

pub joined-loop-operator-init : goal.joined-loop-operator-init
joined-loop-operator-init g t c = λ told k. k

pub joined-loop-operator-preserved : goal.joined-loop-operator-preserved
joined-loop-operator-preserved g t c =
    let s = c.args.context.now in
    let graph = c.args.graph.now in
    let l = c.loop-operator in
    let rest = drop (l.operator-index + 1) c.args.operands.now.items in
    let here = item_here c.loop-operator-test.true c.loop-operator-item.is c.deref-operator-items.ensures.value in
    λ told k. l.invariant told
    (subst (λ xs. ThenTells (scalar_view l.left) told (λ v. chain_of s graph v xs)) (sym here)
    (next_told s graph c.loop-operator-item.result rest (scalar_view l.left) (scalar_view c.scalar-right.result) (scalar_view c.combined-left.result) c.scalar-right.ensures c.combined-left.ensures told k))

pub joined-returns-then-is_untold : goal.joined-returns-then-is_untold
joined-returns-then-is_untold g t c =
    let s = c.args.context.now in
    let graph = c.args.graph.now in
    let l = c.loop-operator in
    let rest = drop (l.operator-index + 1) c.args.operands.now.items in
    let here = item_here c.loop-operator-test.true c.loop-operator-item.is c.deref-operator-items.ensures.value in
    l.invariant None
    (subst (λ xs. ThenTells (scalar_view l.left) None (λ v. chain_of s graph v xs)) (sym here)
    (next_told s graph c.loop-operator-item.result rest (scalar_view l.left) (scalar_view c.scalar-right.result) (scalar_view c.combined-left.result) c.scalar-right.ensures c.combined-left.ensures None
    (nothing_follows (scalar_view c.combined-left.result) (λ u. chain_of s graph u rest) (sym c.is_untold.ensures ∙ c.if-is_untold.true))))

pub joined-returns : goal.joined-returns
joined-returns g t c =
    let s = c.args.context.now in
    let graph = c.args.graph.now in
    let l = c.loop-operator in
    l.invariant (scalar_view l.left)
    (subst (λ xs. ThenTells (scalar_view l.left) (scalar_view l.left) (λ v. chain_of s graph v xs)) (sym (items_end c.loop-operator-test.false c.deref-operator-items.ensures.value)) (at_end (scalar_view l.left)))

pub case-loop-condition-init : goal.case-loop-condition-init
case-loop-condition-init g t c = refl

pub case-loop-condition-preserved : goal.case-loop-condition-preserved
case-loop-condition-preserved g t c =
    let s = c.args.context.now in
    let graph = c.args.graph.now in
    let l = c.loop-condition in
    let rest = drop (l.condition-index + 1) c.deref-condition-items.result.now in
    let w = c.loop-condition-item.result in
    l.invariant
    ∙ ap (true_of s graph None) (item_here c.loop-condition-test.true c.loop-condition-item.is refl)
    ∙ unmet_told s graph w rest (scalar_view c.scalar.result) c.scalar.ensures (subst (λ b. Chooses (scalar_view c.scalar.result) (Some b)) (let chosen : c.in-Some-false.field-0 ≡ false = cc in chosen) c.in-Some-false.ensures)

pub case-returns-in-Some-true : goal.case-returns-in-Some-true
case-returns-in-Some-true g t c =
    let s = c.args.context.now in
    let graph = c.args.graph.now in
    let a = c.in-Case in
    let l = c.loop-condition in
    let rest = drop (l.condition-index + 1) c.deref-condition-items.result.now in
    let w = c.loop-condition-item.result in
    tells_by (scalar_view c.scalar-in-Some-true.result)
    (ap (λ e. given s graph (expression_view e)) a.is
    ∙ in_case s graph a.subject a.whens a.otherwise None (turn.no_subject s graph (none_there a.subject (sym c.is_some.ensures ∙ c.if-is_some.false)))
    ∙ found_when s graph a.whens.items a.otherwise w.1
    (ap (true_of s graph None) (sym c.deref-condition-items.ensures.value)
    ∙ l.invariant
    ∙ ap (true_of s graph None) (item_here c.loop-condition-test.true c.loop-condition-item.is refl)
    ∙ met_told s graph w rest (scalar_view c.scalar.result) c.scalar.ensures (subst (λ b. Chooses (scalar_view c.scalar.result) (Some b)) (let chosen : c.in-Some-true.field-0 ≡ true = cc in chosen) c.in-Some-true.ensures)))
    c.scalar-in-Some-true.ensures

pub case-returns-in-Some : goal.case-returns-in-Some
case-returns-in-Some g t c =
    let s = c.args.context.now in
    let graph = c.args.graph.now in
    let a = c.in-Case in
    tells_by (scalar_view c.scalar-in-Some.result)
    (ap (λ e. given s graph (expression_view e)) a.is
    ∙ in_case s graph a.subject a.whens a.otherwise None (turn.no_subject s graph (none_there a.subject (sym c.is_some.ensures ∙ c.if-is_some.false)))
    ∙ found_otherwise s graph a.whens.items a.otherwise c.in-Some.inner
    (ap (true_of s graph None) (sym c.deref-condition-items.ensures.value)
    ∙ c.loop-condition.invariant
    ∙ ap (true_of s graph None) (items_end c.loop-condition-test.false refl))
    c.in-Some.is
    ∙ ap (λ x. given s graph (expression_view x)) (sym c.deref.ensures))
    c.scalar-in-Some.ensures

pub case-returns-in-None-otherwise : goal.case-returns-in-None-otherwise
case-returns-in-None-otherwise g t c =
    let s = c.args.context.now in
    let graph = c.args.graph.now in
    let a = c.in-Case in
    ap (λ e. given s graph (expression_view e)) a.is
    ∙ in_case s graph a.subject a.whens a.otherwise None (turn.no_subject s graph (none_there a.subject (sym c.is_some.ensures ∙ c.if-is_some.false)))
    ∙ found_null s graph a.whens.items a.otherwise
    (ap (true_of s graph None) (sym c.deref-condition-items.ensures.value)
    ∙ c.loop-condition.invariant
    ∙ ap (true_of s graph None) (items_end c.loop-condition-test.false refl))
    c.in-None-otherwise.is
