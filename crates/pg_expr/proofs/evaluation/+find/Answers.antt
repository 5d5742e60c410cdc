use Rattle.std.proofs.Common.{◌≡◌, Ok, Err, ◌+◌, [], ◌∷◌, get_or, drop, map, refl, sym, ap, ◌∙◌, arith, length}
use Rattle.std.specs.Prelude.{option_map, string_bytes}
use Rattle.pg_expr.proofs.AfterLemmas.{after}
use Rattle.pg_expr.proofs.Turns as turn
use Rattle.pg_expr.proofs.Turns.{fault_gives, no_memory, gives_by, told}
use Rattle.pg_expr.proofs.Walks.{ok_by, err_by, of_call, of_chain, of_suffixes, chosen_case, otherwise_case, null_case, failed_case, joined, joined_pairs, each_of, pairs_given, first_of, true_of, chain_of, operands_given, tests_given, suffixes_given, next_item, no_more_items, next_pair, next_null, next_given, next_unmet, failed_when, met_value, met_fault, next_unknown, next_operand, no_more_operands, next_text_test, failed_text_test, next_index, failed_index}
use Rattle.pg_expr.specs.Calls.{given_size, range_sized, sized}
use Rattle.pg_expr.specs.Operators.{all_negated, truth_compared}
use Rattle.pg_expr.specs.Contexts.{found_view, founds_view, pairs_view, given, given_each, given_compared, given_operands, given_perhaps, row_at, parameters_at}
use Rattle.pg_meaning.specs.Answer.{◌>>=◌}
use Rattle.pg_meaning.specs.Expressions.{all_signed, indexed, labelled, or_fault, property_of, tested}
use Rattle.pg_meaning.specs.Entries.{at_key}
use Rattle.pg_meaning.specs.Functions.{applied, function_named}
use Rattle.pg_meaning.specs.Functions as function
use Rattle.pg_meaning.specs.Measure.{made}
use Rattle.pg_meaning.specs.Parse.{expressions_of, operands_of}
use Rattle.pg_meaning.specs.Rows.{value_in}
use Rattle.pg_meaning.specs.Tree as tree
use Rattle.pg_meaning.specs.Value.{list, mapping}
use Rattle.pg_meaning.specs.declared.fault.Fault.TheVariants.{MissingParameter, UndefinedVariable}
use Rattle.pg_scope.proofs.FirstLemmas.{item_here, items_end}
use Rattle.pg_scope.specs.Calls.{function_view}
use Rattle.pg_syntax_tree.proofs.Views.{negation_is, signs_is}
use Rattle.pg_syntax_tree.specs.View.{expression_view, names_view, operand_view, perhaps_view}
use Rattle.pg_value_core.specs.View.{entries_view}
use Rattle.pg_expr.proofs.evaluation.+find.Goals as goal

pub find-returns-in-Negation : goal.find-returns-in-Negation
find-returns-in-Negation g t c =
    let s = c.args.context.now in
    let graph = c.args.graph.now in
    let a = c.in-Negation in
    let inner = c.deref-in-Negation.result.now in
    let told = after c.find-in-Negation.result (given s graph (expression_view inner)) found_view (all_negated a.count) c.negated.result found_view c.find-in-Negation.ensures.ok c.find-in-Negation.ensures.err c.negated.ensures in
    record {
      ok = ok_by c.negated.result found_view (ap (λ e. given s graph (expression_view e)) a.is ∙ ap (λ e. given s graph e) (negation_is a.count a.inner) ∙ ap (λ x. given s graph (tree.negation a.count (expression_view x))) (sym c.deref-in-Negation.ensures)) told.ok;
      err = err_by c.negated.result (ap (λ e. given s graph (expression_view e)) a.is ∙ ap (λ e. given s graph e) (negation_is a.count a.inner) ∙ ap (λ x. given s graph (tree.negation a.count (expression_view x))) (sym c.deref-in-Negation.ensures)) told.err;
    }

pub find-returns-in-Signs : goal.find-returns-in-Signs
find-returns-in-Signs g t c =
    let s = c.args.context.now in
    let graph = c.args.graph.now in
    let a = c.in-Signs in
    let inner = c.deref-in-Signs.result.now in
    let told = after c.find-in-Signs.result (given s graph (expression_view inner)) found_view (all_signed a.signs.items) c.all_signed.result found_view c.find-in-Signs.ensures.ok c.find-in-Signs.ensures.err c.all_signed.ensures in
    record {
      ok = ok_by c.all_signed.result found_view (ap (λ e. given s graph (expression_view e)) a.is ∙ ap (λ e. given s graph e) (signs_is a.signs a.inner) ∙ ap (λ x. given s graph (tree.signs a.signs.items (expression_view x))) (sym c.deref-in-Signs.ensures)) told.ok;
      err = err_by c.all_signed.result (ap (λ e. given s graph (expression_view e)) a.is ∙ ap (λ e. given s graph e) (signs_is a.signs a.inner) ∙ ap (λ x. given s graph (tree.signs a.signs.items (expression_view x))) (sym c.deref-in-Signs.ensures)) told.err;
    }

pub find-returns-in-Literal : goal.find-returns-in-Literal
find-returns-in-Literal g t c =
    let s = c.args.context.now in
    let graph = c.args.graph.now in
    gives_by c.literal_found.result (ap (λ e. given s graph (expression_view e)) c.in-Literal.is ∙ turn.of_literal s graph c.in-Literal.literal)
    (turn.literal_gives c.in-Literal.literal c.literal_found.result c.literal_found.ensures.ok c.literal_found.ensures.err)

pub find-returns-in-Parameter : goal.find-returns-in-Parameter
find-returns-in-Parameter g t c =
    let s = c.args.context.now in
    let graph = c.args.graph.now in
    gives_by c.parameter.result (ap (λ e. given s graph (expression_view e)) c.in-Parameter.is ∙ turn.of_parameter s graph c.in-Parameter.name ∙ ap (λ k. or_fault (at_key k (parameters_at s)) MissingParameter) (sym c.as_str.ensures.value))
    (told c.parameter.result c.parameter.ensures.ok c.parameter.ensures.err)

pub find-returns-in-Variable : goal.find-returns-in-Variable
find-returns-in-Variable g t c =
    let s = c.args.context.now in
    let graph = c.args.graph.now in
    gives_by c.variable.result (ap (λ e. given s graph (expression_view e)) c.in-Variable.is ∙ turn.of_variable s graph c.in-Variable.name ∙ ap (λ k. or_fault (value_in k (row_at s)) UndefinedVariable) (sym c.as_str-in-Variable.ensures.value))
    (told c.variable.result c.variable.ensures.ok c.variable.ensures.err)

pub find-returns-in-ListLiteral : goal.find-returns-in-ListLiteral
find-returns-in-ListLiteral g t c =
    let s = c.args.context.now in
    let graph = c.args.graph.now in
    let items = c.in-ListLiteral.items.items in
    gives_by c.list_of.result (ap (λ e. given s graph (expression_view e)) c.in-ListLiteral.is ∙ turn.of_list s graph c.in-ListLiteral.items)
    (after c.each.result (each_of s graph items) (λ fs. founds_view fs.items) (λ vs. made (list vs)) c.list_of.result found_view c.each.ensures.ok c.each.ensures.err c.list_of.ensures)

pub find-returns-in-MapLiteral : goal.find-returns-in-MapLiteral
find-returns-in-MapLiteral g t c =
    let s = c.args.context.now in
    let graph = c.args.graph.now in
    gives_by c.mapping.result (ap (λ e. given s graph (expression_view e)) c.in-MapLiteral.is ∙ turn.of_map s graph c.in-MapLiteral.pairs) c.mapping.ensures

pub find-returns-in-Parentheses : goal.find-returns-in-Parentheses
find-returns-in-Parentheses g t c =
    let s = c.args.context.now in
    let graph = c.args.graph.now in
    gives_by c.find.result (ap (λ e. given s graph (expression_view e)) c.in-Parentheses.is ∙ turn.of_parentheses s graph c.in-Parentheses.inner ∙ ap (λ x. given s graph (expression_view x)) (sym c.deref.ensures)) c.find.ensures

pub find-returns-in-Call : goal.find-returns-in-Call
find-returns-in-Call g t c =
    let s = c.args.context.now in
    let graph = c.args.graph.now in
    let a = c.in-Call in
    gives_by c.call.result (ap (λ e. given s graph (expression_view e)) a.is ∙ of_call s graph a.name a.field-1 a.field-2 a.arguments) c.call.ensures

pub each-loop-item-preserved : goal.each-loop-item-preserved
each-loop-item-preserved g t c =
    let s = c.args.context.now in
    let graph = c.args.graph.now in
    let l = c.loop-item in
    let rest = drop (l.item-index + 1) c.args.items.now.items in
    l.invariant
    ∙ ap (λ ys. joined (founds_view l.found.items) (each_of s graph ys)) (item_here c.loop-item-test.true c.item-item.is c.deref-item-items.ensures.value)
    ∙ next_item s graph l.found.items c.item-item.result rest c.in_ok-next.next c.in_ok-next.ensures.ok
    ∙ ap (λ fs. joined (founds_view fs) (each_of s graph rest)) (sym c.in_ok-push.ensures.items)

pub each-returns : goal.each-returns
each-returns g t c =
    let l = c.loop-item in
    let same = c.deref-item-items.ensures.value in
    record {
      ok = l.invariant ∙ no_more_items c.args.context.now c.args.graph.now l.found.items l.item-index c.args.items.now.items (omega (arith, ap length same, c.loop-item-test.false));
      err = tt;
    }

pub each_operand-loop-operator-preserved : goal.each_operand-loop-operator-preserved
each_operand-loop-operator-preserved g t c =
    let s = c.args.context.now in
    let graph = c.args.graph.now in
    let l = c.loop-operator in
    let rest = drop (l.operator-index + 1) c.args.operands.now.items in
    let p = c.loop-operator-item.result in
    l.invariant
    ∙ ap (λ ys. joined_pairs (pairs_view l.found.items) (operands_given s graph ys)) (item_here c.loop-operator-test.true c.loop-operator-item.is c.deref-operator-items.ensures.value)
    ∙ next_operand s graph l.found.items p.0 p.1 rest c.in_ok-next.next c.in_ok-next.ensures.ok
    ∙ ap (λ fs. joined_pairs (pairs_view fs) (operands_given s graph rest)) (sym c.in_ok-push.ensures.items)

pub each_operand-returns : goal.each_operand-returns
each_operand-returns g t c =
    let l = c.loop-operator in
    let same = c.deref-operator-items.ensures.value in
    record {
      ok = l.invariant ∙ no_more_operands c.args.context.now c.args.graph.now l.found.items l.operator-index c.args.operands.now.items (omega (arith, ap length same, c.loop-operator-test.false));
      err = tt;
    }

pub each-returns-in_err-found : goal.each-returns-in_err-found
each-returns-in_err-found g t c =
    no_memory c.from_residual.result c.from_residual.ensures.1

pub each-loop-item-init : goal.each-loop-item-init
each-loop-item-init g t c =
    turn.first_item c.args.context.now c.args.graph.now c.in_ok-found.found.items c.args.items.now.items c.in_ok-found.ensures.items

pub each-returns-in_err-next : goal.each-returns-in_err-next
each-returns-in_err-next g t c =
    let s = c.args.context.now in
    let graph = c.args.graph.now in
    let l = c.loop-item in
    let rest = drop (l.item-index + 1) c.args.items.now.items in
    fault_gives c.in_err-next.field-0.0 c.from_residual-in_err-next.result c.from_residual-in_err-next.ensures.1
    (λ n. l.invariant
    ∙ ap (λ ys. joined (founds_view l.found.items) (each_of s graph ys)) (item_here c.loop-item-test.true c.item-item.is c.deref-item-items.ensures.value)
    ∙ turn.failed_item s graph l.found.items c.item-item.result rest c.in_err-next.field-0.0 (c.in_err-next.ensures.err n))

pub each-returns-in_err-push : goal.each-returns-in_err-push
each-returns-in_err-push g t c =
    no_memory c.from_residual-in_err-push.result c.from_residual-in_err-push.ensures.1

pub each_operand-returns-in_err-found : goal.each_operand-returns-in_err-found
each_operand-returns-in_err-found g t c =
    no_memory c.from_residual.result c.from_residual.ensures.1

pub each_operand-loop-operator-init : goal.each_operand-loop-operator-init
each_operand-loop-operator-init g t c =
    turn.first_operand c.args.context.now c.args.graph.now c.in_ok-found.found.items c.args.operands.now.items c.in_ok-found.ensures.items

pub each_operand-returns-in_err-next : goal.each_operand-returns-in_err-next
each_operand-returns-in_err-next g t c =
    let s = c.args.context.now in
    let graph = c.args.graph.now in
    let l = c.loop-operator in
    let rest = drop (l.operator-index + 1) c.args.operands.now.items in
    fault_gives c.in_err-next.field-0.0 c.from_residual-in_err-next.result c.from_residual-in_err-next.ensures.1
    (λ n. l.invariant
    ∙ ap (λ ys. joined_pairs (pairs_view l.found.items) (operands_given s graph ys)) (item_here c.loop-operator-test.true c.loop-operator-item.is c.deref-operator-items.ensures.value)
    ∙ turn.failed_operand s graph l.found.items c.loop-operator-item.result rest c.in_err-next.field-0.0 (c.in_err-next.ensures.err n))

pub each_operand-returns-in_err-push : goal.each_operand-returns-in_err-push
each_operand-returns-in_err-push g t c =
    no_memory c.from_residual-in_err-push.result c.from_residual-in_err-push.ensures.1

pub mapping-loop-key-init : goal.mapping-loop-key-init
mapping-loop-key-init g t c =
    ap (λ es. pairs_given c.args.context.now c.args.graph.now (entries_view es) c.args.pairs.now.items) (sym c.new-entries.ensures.empty)

pub mapping-returns-in_err-next : goal.mapping-returns-in_err-next
mapping-returns-in_err-next g t c =
    let s = c.args.context.now in
    let graph = c.args.graph.now in
    let l = c.loop-key in
    let rest = drop (l.key-index + 1) c.args.pairs.now.items in
    fault_gives c.in_err-next.field-0.0 c.from_residual.result c.from_residual.ensures.1
    (λ n. ap (λ r. r >>= λ es. made (mapping es))
    (l.invariant
    ∙ ap (pairs_given s graph (entries_view l.entries.entries)) (item_here c.loop-key-test.true c.loop-key-item.is c.deref-key-items.ensures.value)
    ∙ turn.failed_pair s graph (entries_view l.entries.entries) c.loop-key-item.result rest c.in_err-next.field-0.0 (c.in_err-next.ensures.err n)))

pub mapping-returns-in_err-entries : goal.mapping-returns-in_err-entries
mapping-returns-in_err-entries g t c =
    no_memory c.from_residual-in_err-entries.result c.from_residual-in_err-entries.ensures.1

pub mapping-loop-key-preserved : goal.mapping-loop-key-preserved
mapping-loop-key-preserved g t c =
    let s = c.args.context.now in
    let graph = c.args.graph.now in
    let l = c.loop-key in
    let rest = drop (l.key-index + 1) c.args.pairs.now.items in
    l.invariant
    ∙ ap (pairs_given s graph (entries_view l.entries.entries)) (item_here c.loop-key-test.true c.loop-key-item.is c.deref-key-items.ensures.value)
    ∙ next_pair s graph (entries_view l.entries.entries) c.loop-key-item.result rest (found_view c.in_ok-next.next) c.in_ok-next.ensures.ok
    ∙ ap (λ es. pairs_given s graph es rest) (sym c.in_ok-entries.ensures)

pub mapping-returns : goal.mapping-returns
mapping-returns g t c =
    let l = c.loop-key in
    gives_by c.made.result
    (ap (λ r. r >>= λ es. made (mapping es))
    (l.invariant ∙ ap (pairs_given c.args.context.now c.args.graph.now (entries_view l.entries.entries)) (items_end c.loop-key-test.false c.deref-key-items.ensures.value))
    ∙ ap made (sym c.in_ok-map.ensures))
    (told c.made.result c.made.ensures.ok c.made.ensures.err)

pub mapping-returns-in_err-map : goal.mapping-returns-in_err-map
mapping-returns-in_err-map g t c = no_memory c.from_residual-in_err-map.result c.from_residual-in_err-map.ensures.1

pub first_given-returns-in_err-next : goal.first_given-returns-in_err-next
first_given-returns-in_err-next g t c =
    let s = c.args.context.now in
    let graph = c.args.graph.now in
    let l = c.loop-item in
    let rest = drop (l.item-index + 1) c.args.items.now.items in
    fault_gives c.in_err-next.field-0.0 c.from_residual.result c.from_residual.ensures.1
    (λ n. l.invariant
    ∙ ap (first_of s graph) (item_here c.loop-item-test.true c.item-item.is c.deref-item-items.ensures.value)
    ∙ turn.failed_first s graph c.item-item.result rest c.in_err-next.field-0.0 (c.in_err-next.ensures.err n))

pub first_given-returns-then-not-is_null : goal.first_given-returns-then-not-is_null
first_given-returns-then-not-is_null g t c =
    let s = c.args.context.now in
    let graph = c.args.graph.now in
    let l = c.loop-item in
    let rest = drop (l.item-index + 1) c.args.items.now.items in
    record {
      ok = l.invariant
          ∙ ap (first_of s graph) (item_here c.loop-item-test.true c.item-item.is c.deref-item-items.ensures.value)
          ∙ next_given s graph c.item-item.result rest (found_view c.in_ok-next.next) c.in_ok-next.ensures.ok (sym c.is_null.ensures ∙ c.if-not-is_null.true);
      err = tt;
    }

pub first_given-loop-item-preserved : goal.first_given-loop-item-preserved
first_given-loop-item-preserved g t c =
    let s = c.args.context.now in
    let graph = c.args.graph.now in
    let l = c.loop-item in
    let rest = drop (l.item-index + 1) c.args.items.now.items in
    l.invariant
    ∙ ap (first_of s graph) (item_here c.loop-item-test.true c.item-item.is c.deref-item-items.ensures.value)
    ∙ next_null s graph c.item-item.result rest (found_view c.in_ok-next.next) c.in_ok-next.ensures.ok (sym c.is_null.ensures ∙ c.if-not-is_null.false)

pub first_given-returns : goal.first_given-returns
first_given-returns g t c =
    record {
      ok = c.loop-item.invariant ∙ ap (first_of c.args.context.now c.args.graph.now) (items_end c.loop-item-test.false c.deref-item-items.ensures.value) ∙ ap Ok (sym c.null.ensures);
      err = tt;
    }

pub first_true-returns-in_err-tested : goal.first_true-returns-in_err-tested
first_true-returns-in_err-tested g t c =
    let s = c.args.context.now in
    let graph = c.args.graph.now in
    let subject = option_map found_view c.args.subject.now in
    let l = c.loop-condition in
    let rest = drop (l.condition-index + 1) c.args.whens.now.items in
    let w = c.loop-condition-item.result in
    fault_gives c.in_err-tested.field-0.0 c.from_residual.result c.from_residual.ensures.1
    (λ n. l.invariant
    ∙ ap (true_of s graph subject) (item_here c.loop-condition-test.true c.loop-condition-item.is c.deref-condition-items.ensures.value)
    ∙ failed_when s graph subject w rest c.in_err-tested.field-0.0 (c.in_err-tested.ensures.err n))

pub first_true-returns-in_err-is_chosen : goal.first_true-returns-in_err-is_chosen
first_true-returns-in_err-is_chosen g t c =
    let s = c.args.context.now in
    let graph = c.args.graph.now in
    let subject = option_map found_view c.args.subject.now in
    let l = c.loop-condition in
    let rest = drop (l.condition-index + 1) c.args.whens.now.items in
    let w = c.loop-condition-item.result in
    fault_gives c.in_err-is_chosen.field-0.0 c.from_residual-in_err-is_chosen.result c.from_residual-in_err-is_chosen.ensures.1
    (λ _. l.invariant
    ∙ ap (true_of s graph subject) (item_here c.loop-condition-test.true c.loop-condition-item.is c.deref-condition-items.ensures.value)
    ∙ next_unknown s graph subject w rest (found_view c.in_ok-tested.tested) c.in_err-is_chosen.field-0.0 c.in_ok-tested.ensures.ok c.in_err-is_chosen.ensures.err)

pub first_true-returns-in_err-find : goal.first_true-returns-in_err-find
first_true-returns-in_err-find g t c =
    let s = c.args.context.now in
    let graph = c.args.graph.now in
    let subject = option_map found_view c.args.subject.now in
    let l = c.loop-condition in
    let rest = drop (l.condition-index + 1) c.args.whens.now.items in
    let w = c.loop-condition-item.result in
    fault_gives c.in_err-find.field-0.0 c.from_residual-in_err-find.result c.from_residual-in_err-find.ensures.1
    (λ n. l.invariant
    ∙ ap (true_of s graph subject) (item_here c.loop-condition-test.true c.loop-condition-item.is c.deref-condition-items.ensures.value)
    ∙ met_fault s graph subject w rest (found_view c.in_ok-tested.tested) c.in_err-find.field-0.0 c.in_ok-tested.ensures.ok (c.in_ok-is_chosen.ensures.ok ∙ ap Ok c.if-branch.true) (c.in_err-find.ensures.err n))

pub first_true-returns-then-branch : goal.first_true-returns-then-branch
first_true-returns-then-branch g t c =
    let s = c.args.context.now in
    let graph = c.args.graph.now in
    let subject = option_map found_view c.args.subject.now in
    let l = c.loop-condition in
    let rest = drop (l.condition-index + 1) c.args.whens.now.items in
    let w = c.loop-condition-item.result in
    record {
      ok = l.invariant
          ∙ ap (true_of s graph subject) (item_here c.loop-condition-test.true c.loop-condition-item.is c.deref-condition-items.ensures.value)
          ∙ met_value s graph subject w rest (found_view c.in_ok-tested.tested) (found_view c.in_ok-find.field-0) c.in_ok-tested.ensures.ok (c.in_ok-is_chosen.ensures.ok ∙ ap Ok c.if-branch.true) c.in_ok-find.ensures.ok;
      err = tt;
    }

pub first_true-loop-condition-preserved : goal.first_true-loop-condition-preserved
first_true-loop-condition-preserved g t c =
    let s = c.args.context.now in
    let graph = c.args.graph.now in
    let subject = option_map found_view c.args.subject.now in
    let l = c.loop-condition in
    let rest = drop (l.condition-index + 1) c.args.whens.now.items in
    let w = c.loop-condition-item.result in
    l.invariant
    ∙ ap (true_of s graph subject) (item_here c.loop-condition-test.true c.loop-condition-item.is c.deref-condition-items.ensures.value)
    ∙ next_unmet s graph subject w rest (found_view c.in_ok-tested.tested) c.in_ok-tested.ensures.ok (c.in_ok-is_chosen.ensures.ok ∙ ap Ok c.if-branch.false)

pub first_true-returns : goal.first_true-returns
first_true-returns g t c =
    record {
      ok = c.loop-condition.invariant ∙ ap (true_of c.args.context.now c.args.graph.now (option_map found_view c.args.subject.now)) (items_end c.loop-condition-test.false c.deref-condition-items.ensures.value);
      err = tt;
    }

pub joined-returns-in_err-right : goal.joined-returns-in_err-right
joined-returns-in_err-right g t c =
    let s = c.args.context.now in
    let graph = c.args.graph.now in
    let l = c.loop-operator in
    let rest = drop (l.operator-index + 1) c.args.operands.now.items in
    let p = c.loop-operator-item.result in
    fault_gives c.in_err-right.field-0.0 c.from_residual.result c.from_residual.ensures.1
    (λ n. l.invariant
    ∙ ap (chain_of s graph (found_view l.left)) (item_here c.loop-operator-test.true c.loop-operator-item.is c.deref-operator-items.ensures.value)
    ∙ turn.failed_right s graph (found_view l.left) p rest c.in_err-right.field-0.0 (c.in_err-right.ensures.err n))

pub joined-returns-in_err-left : goal.joined-returns-in_err-left
joined-returns-in_err-left g t c =
    let s = c.args.context.now in
    let graph = c.args.graph.now in
    let l = c.loop-operator in
    let rest = drop (l.operator-index + 1) c.args.operands.now.items in
    let p = c.loop-operator-item.result in
    fault_gives c.in_err-left.field-0.0 c.from_residual-in_err-left.result c.from_residual-in_err-left.ensures.1
    (λ n. l.invariant
    ∙ ap (chain_of s graph (found_view l.left)) (item_here c.loop-operator-test.true c.loop-operator-item.is c.deref-operator-items.ensures.value)
    ∙ turn.failed_combined s graph (found_view l.left) p rest (found_view c.in_ok-right.right) c.in_err-left.field-0.0 c.in_ok-right.ensures.ok (c.in_err-left.ensures.err n))

pub joined-loop-operator-preserved : goal.joined-loop-operator-preserved
joined-loop-operator-preserved g t c =
    let s = c.args.context.now in
    let graph = c.args.graph.now in
    let l = c.loop-operator in
    let rest = drop (l.operator-index + 1) c.args.operands.now.items in
    let p = c.loop-operator-item.result in
    l.invariant
    ∙ ap (chain_of s graph (found_view l.left)) (item_here c.loop-operator-test.true c.loop-operator-item.is c.deref-operator-items.ensures.value)
    ∙ turn.next_combined s graph (found_view l.left) p rest (found_view c.in_ok-right.right) (found_view c.in_ok-left.left) c.in_ok-right.ensures.ok c.in_ok-left.ensures.ok

pub joined-returns : goal.joined-returns
joined-returns g t c =
    let l = c.loop-operator in
    record {
      ok = l.invariant ∙ ap (chain_of c.args.context.now c.args.graph.now (found_view l.left)) (items_end c.loop-operator-test.false c.deref-operator-items.ensures.value);
      err = tt;
    }

pub call-returns-then-is_coalesce : goal.call-returns-then-is_coalesce
call-returns-then-is_coalesce g t c =
    let es = expressions_of (map expression_view c.args.arguments.now.items) in
    let named = ap function_named (sym c.as_str.ensures.value) ∙ sym c.function_named.ensures ∙ ap (option_map function_view) c.in-Some.is in
    gives_by c.first_given.result
    (turn.coalesced c.args.context.now c.args.graph.now (string_bytes c.args.name.now.text) es (function_view c.in-Some.function) named (sym c.is_coalesce.ensures ∙ c.if-is_coalesce.true))
    c.first_given.ensures

pub call-returns-in-len1 : goal.call-returns-in-len1
call-returns-in-len1 g t c =
    let s = c.args.context.now in
    let graph = c.args.graph.now in
    let items = c.args.arguments.now.items in
    let es = expressions_of (map expression_view items) in
    let f = function_view c.in-Some.function in
    let named = ap function_named (sym c.as_str.ensures.value) ∙ sym c.function_named.ensures ∙ ap (option_map function_view) c.in-Some.is in
    let x = c.argument-item.result in
    gives_by c.size.result
    (turn.called s graph (string_bytes c.args.name.now.text) es f named (sym c.is_coalesce.ensures ∙ c.if-is_coalesce.false)
    ∙ ap (λ h. given_each s graph es >>= applied graph h) (c.is_size.ensures c.if-is_size.true)
    ∙ ap (λ z. given_each s graph z >>= applied graph function.size) (turn.one_argument c.as_slice.result.now items x c.as_slice.ensures.value c.in-len1.len_at_least c.in-len1.len_below c.argument-item.is)
    ∙ turn.applied_alone graph function.size (given s graph (expression_view x)))
    c.size.ensures

pub call-returns : goal.call-returns
call-returns g t c =
    let s = c.args.context.now in
    let graph = c.args.graph.now in
    let items = c.args.arguments.now.items in
    let named = ap function_named (sym c.as_str.ensures.value) ∙ sym c.function_named.ensures ∙ ap (option_map function_view) c.in-Some.is in
    let f = function_view c.in-Some.function in
    gives_by c.applied.result
    (turn.called s graph (string_bytes c.args.name.now.text) (expressions_of (map expression_view items)) f named (sym c.is_coalesce.ensures ∙ c.if-is_coalesce.false))
    (after c.each.result (each_of s graph items) (λ fs. founds_view fs.items) (λ vs. applied graph f vs) c.applied.result found_view c.each.ensures.ok c.each.ensures.err c.applied.ensures)

pub size-returns-in-Parentheses : goal.size-returns-in-Parentheses
size-returns-in-Parentheses g t c =
    let s = c.args.context.now in
    let graph = c.args.graph.now in
    gives_by c.size.result
    (ap (λ e. given_size s graph (expression_view e)) c.in-Parentheses.is
    ∙ ap (λ r. r >>= sized graph) (turn.of_parentheses s graph c.in-Parentheses.inner ∙ ap (λ x. given s graph (expression_view x)) (sym c.deref.ensures)))
    c.size.ensures

pub size-returns-then-is_range_named : goal.size-returns-then-is_range_named
size-returns-then-is_range_named g t c =
    let s = c.args.context.now in
    let graph = c.args.graph.now in
    let a = c.in-Call in
    let es = expressions_of (map expression_view a.arguments.items) in
    let named = ap function_named (sym c.as_str.ensures.value) ∙ c.is_range_named.ensures c.if-is_range_named.true in
    gives_by c.range_counted.result
    (ap (λ e. given_size s graph (expression_view e)) a.is
    ∙ ap (λ r. r >>= sized graph) (of_call s graph a.name a.field-1 a.field-2 a.arguments ∙ turn.called s graph (string_bytes a.name.text) es function.range named refl)
    ∙ turn.behind_all (given_each s graph es) (applied graph function.range) (sized graph))
    (after c.each.result (given_each s graph es) (λ fs. founds_view fs.items) (range_sized graph) c.range_counted.result found_view c.each.ensures.ok c.each.ensures.err c.range_counted.ensures)

pub size-returns-else-is_range_named : goal.size-returns-else-is_range_named
size-returns-else-is_range_named g t c =
    after c.find.result (given c.args.context.now c.args.graph.now (expression_view c.args.argument.now)) found_view (sized c.args.graph.now) c.counted.result found_view c.find.ensures.ok c.find.ensures.err c.counted.ensures

pub size-returns-in_default : goal.size-returns-in_default
size-returns-in_default g t c =
    after c.find-in_default.result (given c.args.context.now c.args.graph.now (expression_view c.args.argument.now)) found_view (sized c.args.graph.now) c.counted-in_default.result found_view c.find-in_default.ensures.ok c.find-in_default.ensures.err c.counted-in_default.ensures

pub case-returns-in_err-find-in-Some : goal.case-returns-in_err-find-in-Some
case-returns-in_err-find-in-Some g t c =
    let s = c.args.context.now in
    let graph = c.args.graph.now in
    let a = c.in-Case in
    let e = c.in_err-find-in-Some in
    fault_gives e.field-0.0 c.from_residual.result c.from_residual.ensures.1
    (λ n. ap (λ e. given s graph (expression_view e)) a.is
    ∙ turn.failed_subject s graph a.subject a.whens a.otherwise c.in-Some.inner e.field-0.0 c.in-Some.is (turn.boxed s graph c.deref.ensures (e.ensures.err n)))

pub case-returns-in_err-chosen : goal.case-returns-in_err-chosen
case-returns-in_err-chosen g t c =
    let s = c.args.context.now in
    let graph = c.args.graph.now in
    let a = c.in-Case in
    let e = c.in_err-chosen in
    let v = option_map found_view c.match-subject.tested in
    let there : given_perhaps s graph (perhaps_view a.subject) ≡ Ok v = elim c.match-subject.branch [
      | goal.case-in-Some+in_ok-find-in-Some w ↦ turn.given_subject s graph w.in-Some.inner (found_view w.in_ok-find-in-Some.field-0) w.in-Some.is (turn.boxed s graph w.deref.ensures w.in_ok-find-in-Some.ensures.ok) ∙ ap (λ o. Ok (option_map found_view o)) (sym w.tested-is)
      | goal.case-in-None w ↦ turn.no_subject s graph w.in-None.is ∙ ap (λ o. Ok (option_map found_view o)) (sym w.tested-is)
    ] in
    fault_gives e.field-0.0 c.from_residual-in_err-chosen.result c.from_residual-in_err-chosen.ensures.1
    (λ n. ap (λ e. given s graph (expression_view e)) a.is ∙ failed_case s graph a.subject a.whens a.otherwise v there e.field-0.0 (e.ensures.err n))

pub case-returns-in-Some-chosen : goal.case-returns-in-Some-chosen
case-returns-in-Some-chosen g t c =
    let s = c.args.context.now in
    let graph = c.args.graph.now in
    let a = c.in-Case in
    let o = c.in_ok-chosen in
    let v = option_map found_view c.match-subject.tested in
    let there : given_perhaps s graph (perhaps_view a.subject) ≡ Ok v = elim c.match-subject.branch [
      | goal.case-in-Some+in_ok-find-in-Some w ↦ turn.given_subject s graph w.in-Some.inner (found_view w.in_ok-find-in-Some.field-0) w.in-Some.is (turn.boxed s graph w.deref.ensures w.in_ok-find-in-Some.ensures.ok) ∙ ap (λ o. Ok (option_map found_view o)) (sym w.tested-is)
      | goal.case-in-None w ↦ turn.no_subject s graph w.in-None.is ∙ ap (λ o. Ok (option_map found_view o)) (sym w.tested-is)
    ] in
    record {
      ok = ap (λ e. given s graph (expression_view e)) a.is ∙ chosen_case s graph a.subject a.whens a.otherwise v there o.chosen o.ensures.ok c.in-Some-chosen.found c.in-Some-chosen.is;
      err = tt;
    }

pub case-returns-in-Some-otherwise : goal.case-returns-in-Some-otherwise
case-returns-in-Some-otherwise g t c =
    let s = c.args.context.now in
    let graph = c.args.graph.now in
    let a = c.in-Case in
    let o = c.in_ok-chosen in
    let v = option_map found_view c.match-subject.tested in
    let there : given_perhaps s graph (perhaps_view a.subject) ≡ Ok v = elim c.match-subject.branch [
      | goal.case-in-Some+in_ok-find-in-Some w ↦ turn.given_subject s graph w.in-Some.inner (found_view w.in_ok-find-in-Some.field-0) w.in-Some.is (turn.boxed s graph w.deref.ensures w.in_ok-find-in-Some.ensures.ok) ∙ ap (λ o. Ok (option_map found_view o)) (sym w.tested-is)
      | goal.case-in-None w ↦ turn.no_subject s graph w.in-None.is ∙ ap (λ o. Ok (option_map found_view o)) (sym w.tested-is)
    ] in
    gives_by c.find-in-Some-otherwise.result
    (ap (λ e. given s graph (expression_view e)) a.is
    ∙ otherwise_case s graph a.subject a.whens a.otherwise v there o.chosen o.ensures.ok c.in-Some-otherwise.inner c.in-None-chosen.is c.in-Some-otherwise.is
    ∙ ap (λ x. given s graph (expression_view x)) (sym c.deref-in-Some-otherwise.ensures))
    c.find-in-Some-otherwise.ensures

pub case-returns-in-None-otherwise : goal.case-returns-in-None-otherwise
case-returns-in-None-otherwise g t c =
    let s = c.args.context.now in
    let graph = c.args.graph.now in
    let a = c.in-Case in
    let o = c.in_ok-chosen in
    let v = option_map found_view c.match-subject.tested in
    let there : given_perhaps s graph (perhaps_view a.subject) ≡ Ok v = elim c.match-subject.branch [
      | goal.case-in-Some+in_ok-find-in-Some w ↦ turn.given_subject s graph w.in-Some.inner (found_view w.in_ok-find-in-Some.field-0) w.in-Some.is (turn.boxed s graph w.deref.ensures w.in_ok-find-in-Some.ensures.ok) ∙ ap (λ o. Ok (option_map found_view o)) (sym w.tested-is)
      | goal.case-in-None w ↦ turn.no_subject s graph w.in-None.is ∙ ap (λ o. Ok (option_map found_view o)) (sym w.tested-is)
    ] in
    record {
      ok = ap (λ e. given s graph (expression_view e)) a.is ∙ null_case s graph a.subject a.whens a.otherwise v there o.chosen o.ensures.ok c.in-None-chosen.is c.in-None-otherwise.is ∙ ap Ok (sym c.null.ensures);
      err = tt;
    }

pub chain-returns-in_err-found : goal.chain-returns-in_err-found
chain-returns-in_err-found g t c =
    let s = c.args.context.now in
    let graph = c.args.graph.now in
    let a = c.in-Chain in
    let e = c.in_err-found in
    fault_gives e.field-0.0 c.from_residual.result c.from_residual.ensures.1
    (λ n. ap (λ e. given s graph (expression_view e)) a.is ∙ turn.failed_chain s graph a.first a.operands e.field-0.0 (turn.boxed s graph c.deref.ensures (e.ensures.err n)))

pub chain-returns-then-not-begins_comparison : goal.chain-returns-then-not-begins_comparison
chain-returns-then-not-begins_comparison g t c =
    let s = c.args.context.now in
    let graph = c.args.graph.now in
    let a = c.in-Chain in
    let v = found_view c.in_ok-found.found in
    let os = operands_of (map operand_view a.operands.items) in
    gives_by c.joined.result
    (ap (λ e. given s graph (expression_view e)) a.is ∙ of_chain s graph a.first a.operands v (turn.boxed s graph c.deref.ensures c.in_ok-found.ensures.ok)
    ∙ turn.of_others s graph v os (sym c.begins_comparison.ensures ∙ c.if-not-begins_comparison.true))
    c.joined.ensures

pub chain-returns-in-len1 : goal.chain-returns-in-len1
chain-returns-in-len1 g t c =
    let s = c.args.context.now in
    let graph = c.args.graph.now in
    let a = c.in-Chain in
    let v = found_view c.in_ok-found.found in
    let os = operands_of (map operand_view a.operands.items) in
    let items = c.as_slice.result.now in
    let p = get_or items 0 c.index-operator-0.result in
    let q = get_or items 0 c.index-operand-0.result in
    let operand = expression_view q.1 in
    gives_by c.compared_once.result
    (ap (λ e. given s graph (expression_view e)) a.is ∙ of_chain s graph a.first a.operands v (turn.boxed s graph c.deref.ensures c.in_ok-found.ensures.ok)
    ∙ turn.of_comparisons s graph v os (sym c.begins_comparison.ensures ∙ c.if-not-begins_comparison.false)
    ∙ ap (given_compared s graph v) (turn.one_left items a.operands.items p q c.as_slice.ensures.value c.in-len1.len_at_least c.in-len1.len_below (ap (get_or items 0) c.index-operator-0.is) (ap (get_or items 0) c.index-operand-0.is))
    ∙ turn.one_operand v p.0 (given s graph operand))
    (after c.find-in-len1.result (given s graph operand) found_view (λ w. truth_compared v ((p.0, w) ∷ [])) c.compared_once.result found_view c.find-in-len1.ensures.ok c.find-in-len1.ensures.err c.compared_once.ensures)

pub chain-returns-in_default-as_slice : goal.chain-returns-in_default-as_slice
chain-returns-in_default-as_slice g t c =
    let s = c.args.context.now in
    let graph = c.args.graph.now in
    let a = c.in-Chain in
    let v = found_view c.in_ok-found.found in
    let os = operands_of (map operand_view a.operands.items) in
    gives_by c.compared.result
    (ap (λ e. given s graph (expression_view e)) a.is ∙ of_chain s graph a.first a.operands v (turn.boxed s graph c.deref.ensures c.in_ok-found.ensures.ok)
    ∙ turn.of_comparisons s graph v os (sym c.begins_comparison.ensures ∙ c.if-not-begins_comparison.false))
    (after c.each_operand.result (given_operands s graph os) (λ ps. pairs_view ps.items) (truth_compared v) c.compared.result found_view c.each_operand.ensures.ok c.each_operand.ensures.err c.compared.ensures)

pub pass_tests-returns-in_err-found : goal.pass_tests-returns-in_err-found
pass_tests-returns-in_err-found g t c =
    let s = c.args.context.now in
    let graph = c.args.graph.now in
    let a = c.in-Tests in
    let e = c.in_err-found in
    fault_gives e.field-0.0 c.from_residual.result c.from_residual.ensures.1
    (λ n. ap (λ e. given s graph (expression_view e)) a.is ∙ turn.failed_tests s graph a.inner a.tests e.field-0.0 (turn.boxed s graph c.deref.ensures (e.ensures.err n)))

pub pass_tests-returns-in_err-found-in-Text : goal.pass_tests-returns-in_err-found-in-Text
pass_tests-returns-in_err-found-in-Text g t c =
    let s = c.args.context.now in
    let graph = c.args.graph.now in
    let a = c.in-Tests in
    let l = c.loop-test in
    let rest = drop (l.test-index + 1) c.deref-test-items.result.now in
    fault_gives c.in_err-found-in-Text.field-0.0 c.from_residual-in_err-found-in-Text.result c.from_residual-in_err-found-in-Text.ensures.1
    (λ n. ap (λ e. given s graph (expression_view e)) a.is ∙ turn.of_tests s graph a.inner a.tests (found_view c.in_ok-found.found) (turn.boxed s graph c.deref.ensures c.in_ok-found.ensures.ok) ∙ ap (tests_given s graph (found_view c.in_ok-found.found)) (sym c.deref-test-items.ensures.value)
    ∙ l.invariant
    ∙ ap (tests_given s graph (found_view l.found)) (item_here c.loop-test-test.true c.test-item.is refl)
    ∙ ap (λ x. tests_given s graph (found_view l.found) (x ∷ rest)) c.in-Text.is
    ∙ failed_text_test s graph (found_view l.found) c.in-Text.test c.in-Text.operand rest c.in_err-found-in-Text.field-0.0 ((after c.find-in-Text.result (given s graph (expression_view c.in-Text.operand)) found_view (tested c.in-Text.test (found_view l.found)) (Err c.in_err-found-in-Text.field-0.0) found_view c.find-in-Text.ensures.ok c.find-in-Text.ensures.err c.in_err-found-in-Text.ensures).err n))

pub pass_tests-loop-test-preserved : goal.pass_tests-loop-test-preserved
pass_tests-loop-test-preserved g t c =
    let s = c.args.context.now in
    let graph = c.args.graph.now in
    let l = c.loop-test in
    let rest = drop (l.test-index + 1) c.deref-test-items.result.now in
    elim c.match-test.branch [
      | goal.pass_tests-in-Text+in_ok-found-in-Text w ↦ l.invariant
          ∙ ap (tests_given s graph (found_view l.found)) (item_here c.loop-test-test.true c.test-item.is refl)
          ∙ ap (λ x. tests_given s graph (found_view l.found) (x ∷ rest)) w.in-Text.is
          ∙ next_text_test s graph (found_view l.found) w.in-Text.test w.in-Text.operand rest (found_view w.in_ok-found-in-Text.found) (after w.find-in-Text.result (given s graph (expression_view w.in-Text.operand)) found_view (tested w.in-Text.test (found_view l.found)) (Ok w.in_ok-found-in-Text.found) found_view w.find-in-Text.ensures.ok w.find-in-Text.ensures.err w.in_ok-found-in-Text.ensures).ok
          ∙ ap (λ f. tests_given s graph (found_view f) rest) (sym w.found-is)
      | goal.pass_tests-in-IsNull w ↦ l.invariant
          ∙ ap (tests_given s graph (found_view l.found)) (item_here c.loop-test-test.true c.test-item.is refl)
          ∙ ap (λ x. tests_given s graph (found_view l.found) (x ∷ rest)) w.in-IsNull.is
          ∙ ap (λ v. tests_given s graph v rest) (sym w.null_tested.ensures)
          ∙ ap (λ f. tests_given s graph (found_view f) rest) (sym w.found-is)
    ]

pub pass_tests-returns : goal.pass_tests-returns
pass_tests-returns g t c =
    let s = c.args.context.now in
    let graph = c.args.graph.now in
    let a = c.in-Tests in
    let l = c.loop-test in
    record {
      ok = ap (λ e. given s graph (expression_view e)) a.is ∙ turn.of_tests s graph a.inner a.tests (found_view c.in_ok-found.found) (turn.boxed s graph c.deref.ensures c.in_ok-found.ensures.ok) ∙ ap (tests_given s graph (found_view c.in_ok-found.found)) (sym c.deref-test-items.ensures.value)
          ∙ l.invariant
          ∙ ap (tests_given s graph (found_view l.found)) (items_end c.loop-test-test.false refl);
      err = tt;
    }

pub read-returns-in_err-found : goal.read-returns-in_err-found
read-returns-in_err-found g t c =
    let s = c.args.context.now in
    let graph = c.args.graph.now in
    let a = c.in-Suffixes in
    let e = c.in_err-found in
    fault_gives e.field-0.0 c.from_residual.result c.from_residual.ensures.1
    (λ n. ap (λ e. given s graph (expression_view e)) a.is ∙ turn.failed_suffixes s graph a.inner a.suffixes a.names e.field-0.0 (turn.boxed s graph c.deref.ensures (e.ensures.err n)))

pub read-returns-in_err-found-in-Property : goal.read-returns-in_err-found-in-Property
read-returns-in_err-found-in-Property g t c =
    let s = c.args.context.now in
    let graph = c.args.graph.now in
    let a = c.in-Suffixes in
    let l = c.loop-suffix in
    let rest = drop (l.suffix-index + 1) c.deref-suffix-items.result.now in
    fault_gives c.in_err-found-in-Property.field-0.0 c.from_residual-in_err-found-in-Property.result c.from_residual-in_err-found-in-Property.ensures.1
    (λ n. ap (λ e. given s graph (expression_view e)) a.is ∙ of_suffixes s graph a.inner a.suffixes a.names (found_view c.in_ok-found.found) (turn.boxed s graph c.deref.ensures c.in_ok-found.ensures.ok)
    ∙ ap (λ xs. suffixes_given s graph (found_view c.in_ok-found.found) xs >>= λ w. labelled graph w (names_view a.names.items)) (sym c.deref-suffix-items.ensures.value)
    ∙ ap (λ r. r >>= λ w. labelled graph w (names_view c.in-Suffixes.names.items))
    (l.invariant
    ∙ ap (suffixes_given s graph (found_view l.found)) (item_here c.loop-suffix-test.true c.suffix-item.is refl)
    ∙ ap (λ x. suffixes_given s graph (found_view l.found) (x ∷ rest)) c.in-Property.is
    ∙ turn.failed_property s graph (found_view l.found) c.in_err-found-in-Property.field-0.0 c.in-Property.key rest (ap (property_of graph (found_view l.found)) (sym c.as_str.ensures.value) ∙ c.in_err-found-in-Property.ensures.err n)))

pub read-returns-in_err-found-in-Index : goal.read-returns-in_err-found-in-Index
read-returns-in_err-found-in-Index g t c =
    let s = c.args.context.now in
    let graph = c.args.graph.now in
    let a = c.in-Suffixes in
    let l = c.loop-suffix in
    let rest = drop (l.suffix-index + 1) c.deref-suffix-items.result.now in
    fault_gives c.in_err-found-in-Index.field-0.0 c.from_residual-in_err-found-in-Index.result c.from_residual-in_err-found-in-Index.ensures.1
    (λ n. ap (λ e. given s graph (expression_view e)) a.is ∙ of_suffixes s graph a.inner a.suffixes a.names (found_view c.in_ok-found.found) (turn.boxed s graph c.deref.ensures c.in_ok-found.ensures.ok)
    ∙ ap (λ xs. suffixes_given s graph (found_view c.in_ok-found.found) xs >>= λ w. labelled graph w (names_view a.names.items)) (sym c.deref-suffix-items.ensures.value)
    ∙ ap (λ r. r >>= λ w. labelled graph w (names_view c.in-Suffixes.names.items))
    (l.invariant
    ∙ ap (suffixes_given s graph (found_view l.found)) (item_here c.loop-suffix-test.true c.suffix-item.is refl)
    ∙ ap (λ x. suffixes_given s graph (found_view l.found) (x ∷ rest)) c.in-Index.is
    ∙ failed_index s graph (found_view l.found) c.in-Index.place rest c.in_err-found-in-Index.field-0.0 ((after c.find-in-Index.result (given s graph (expression_view c.in-Index.place)) found_view (indexed graph (found_view l.found)) (Err c.in_err-found-in-Index.field-0.0) found_view c.find-in-Index.ensures.ok c.find-in-Index.ensures.err c.in_err-found-in-Index.ensures).err n)))

pub read-loop-suffix-preserved : goal.read-loop-suffix-preserved
read-loop-suffix-preserved g t c =
    let s = c.args.context.now in
    let graph = c.args.graph.now in
    let l = c.loop-suffix in
    let rest = drop (l.suffix-index + 1) c.deref-suffix-items.result.now in
    elim c.match-suffix.branch [
      | goal.read-in-Property+in_ok-found-in-Property w ↦ l.invariant
          ∙ ap (suffixes_given s graph (found_view l.found)) (item_here c.loop-suffix-test.true c.suffix-item.is refl)
          ∙ ap (λ x. suffixes_given s graph (found_view l.found) (x ∷ rest)) w.in-Property.is
          ∙ turn.next_property s graph (found_view l.found) (found_view w.in_ok-found-in-Property.found) w.in-Property.key rest (ap (property_of graph (found_view l.found)) (sym w.as_str.ensures.value) ∙ w.in_ok-found-in-Property.ensures.ok)
          ∙ ap (λ f. suffixes_given s graph (found_view f) rest) (sym w.found-is)
      | goal.read-in-Index+in_ok-found-in-Index w ↦ l.invariant
          ∙ ap (suffixes_given s graph (found_view l.found)) (item_here c.loop-suffix-test.true c.suffix-item.is refl)
          ∙ ap (λ x. suffixes_given s graph (found_view l.found) (x ∷ rest)) w.in-Index.is
          ∙ next_index s graph (found_view l.found) w.in-Index.place rest (found_view w.in_ok-found-in-Index.found) (after w.find-in-Index.result (given s graph (expression_view w.in-Index.place)) found_view (indexed graph (found_view l.found)) (Ok w.in_ok-found-in-Index.found) found_view w.find-in-Index.ensures.ok w.find-in-Index.ensures.err w.in_ok-found-in-Index.ensures).ok
          ∙ ap (λ f. suffixes_given s graph (found_view f) rest) (sym w.found-is)
    ]

pub read-returns : goal.read-returns
read-returns g t c =
    let s = c.args.context.now in
    let graph = c.args.graph.now in
    let a = c.in-Suffixes in
    let l = c.loop-suffix in
    gives_by c.labels.result
    (ap (λ e. given s graph (expression_view e)) a.is ∙ of_suffixes s graph a.inner a.suffixes a.names (found_view c.in_ok-found.found) (turn.boxed s graph c.deref.ensures c.in_ok-found.ensures.ok)
    ∙ ap (λ xs. suffixes_given s graph (found_view c.in_ok-found.found) xs >>= λ w. labelled graph w (names_view a.names.items)) (sym c.deref-suffix-items.ensures.value)
    ∙ ap (λ r. r >>= λ w. labelled graph w (names_view a.names.items)) (l.invariant ∙ ap (suffixes_given s graph (found_view l.found)) (items_end c.loop-suffix-test.false refl)))
    (told c.labels.result c.labels.ensures.ok c.labels.ensures.err)
