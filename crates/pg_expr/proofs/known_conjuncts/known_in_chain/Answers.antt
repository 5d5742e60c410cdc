use Rattle.std.proofs.Common.{◌≡◌, ◌+◌, ◌∷◌, true, false, drop, length, sym, ap, subst, ◌∙◌, arith}
use Rattle.pg_expr.proofs.ChainLemmas.{conjuncts_from}
use Rattle.pg_expr.proofs.KnownLemmas.{from_drop, next_known, none_left, one_known}
use Rattle.pg_expr.specs.KnownConjuncts.{StandFor}
use Rattle.pg_syntax_tree.specs.View.{expression_view}
use Rattle.pg_value_core.specs.Given.{parameters_view}
use Rattle.pg_expr.proofs.known_conjuncts.known_in_chain.Goals as goal

pub returns-in_default : goal.returns-in_default
returns-in_default c = c.nothing_known.ensures c.args.names.now (parameters_view c.args.parameters.now) (expression_view c.args.first.now ∷ conjuncts_from c.args.operands.now.items)

pub loop-operand-init : goal.loop-operand-init
loop-operand-init c =
    let names = c.args.names.now in
    let ps = parameters_view c.args.parameters.now in
    let first = expression_view c.args.first.now in
    let es = conjuncts_from c.args.operands.now.items in
    let k = c.in-Some.known in
    (ap length c.new-others.ensures.items, subst (λ ks. StandFor names ps (k ∷ ks) (first ∷ es) es) (sym c.new-others.ensures.items) (one_known names ps k first es c.in-Some.ensures))

pub loop-operand-preserved : goal.loop-operand-preserved
loop-operand-preserved c =
    let names = c.args.names.now in
    let ps = parameters_view c.args.parameters.now in
    let os = c.args.operands.now.items in
    let all = expression_view c.args.first.now ∷ conjuncts_from os in
    let k = c.in-Some.known in
    let l = c.loop-operand in
    let pushed = c.in_ok-push-in-Some-known_conjunct.ensures in (
      omega (arith, pushed.len, l.invariant.0),
      subst (λ ks. StandFor names ps (k ∷ ks) all (conjuncts_from (drop (l.operand-index + 1) os))) (sym pushed.items)
          (next_known names ps (k ∷ l.others.items) all c.deref-operand-items.result.now os c.deref-operand-items.ensures.value l.operand-index l.invariant.1
          c.loop-operand-item.result c.in-Some-known_conjunct.other c.loop-operand-test.true c.loop-operand-item.is c.in-Some-known_conjunct.ensures),
    )

pub returns-in-None : goal.returns-in-None
returns-in-None c =
    let os = c.args.operands.now.items in
    let l = c.loop-operand in
    let left : conjuncts_from (drop l.operand-index os) ≡ drop (length l.others.items) (conjuncts_from os) = sym (from_drop l.operand-index os) ∙ ap (λ n. drop n (conjuncts_from os)) (sym l.invariant.0) in (
      subst (StandFor c.args.names.now (parameters_view c.args.parameters.now) (c.in-Some.known ∷ l.others.items) (expression_view c.args.first.now ∷ conjuncts_from os)) left l.invariant.1,
      λ all. absurd (let no : false ≡ true = all in cc),
    )

pub returns : goal.returns
returns c =
    let os = c.args.operands.now.items in
    let l = c.loop-operand in
    let left : conjuncts_from (drop l.operand-index os) ≡ drop (length l.others.items) (conjuncts_from os) = sym (from_drop l.operand-index os) ∙ ap (λ n. drop n (conjuncts_from os)) (sym l.invariant.0) in (
      subst (StandFor c.args.names.now (parameters_view c.args.parameters.now) (c.in-Some.known ∷ l.others.items) (expression_view c.args.first.now ∷ conjuncts_from os)) left l.invariant.1,
      λ all. ap length (sym left) ∙ ap length (none_left c.deref-operand-items.result.now os c.deref-operand-items.ensures.value l.operand-index c.loop-operand-test.false),
    )
