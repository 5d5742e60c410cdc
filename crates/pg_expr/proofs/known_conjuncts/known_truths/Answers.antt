use Rattle.std.proofs.Common.{◌+◌, ◌∷◌, Bool, true, false, cond, drop, map, Ok, ap, ◌∙◌, arith}
use Rattle.pg_expr.proofs.KnownLemmas.{at_end, at_place}
use Rattle.pg_expr.specs.KnownConjuncts.{given_then, with_first}
use Rattle.pg_value_core.specs.View.{view}
use Rattle.pg_expr.proofs.known_conjuncts.known_truths.Goals as goal

pub returns-in-Some-false : goal.returns-in-Some-false
returns-in-Some-false g c =
    let values = map view c.args.row.now in
    let ks = c.in-Some.first ∷ c.args.known.now.others.items in
    let next = given_then (drop (c.loop-at.at + 1) ks) values c.args.graph.now (Ok true) in
    ap (λ o. given_then (with_first o c.args.known.now.others.items) values c.args.graph.now (Ok true)) c.in-Some.is
    ∙ at_place values c.args.graph.now ks c.loop-at.at c.loop-at.invariant c.conjunct_at.result.now c.in-Some-false.field-0 c.conjunct_at.ensures c.in-Some-false.ensures
    ∙ ap (λ (b : Bool). cond b next (Ok false)) c.in-Some-false.field-0-test

pub loop-at-preserved : goal.loop-at-preserved
loop-at-preserved g c =
    let values = map view c.args.row.now in
    let ks = c.in-Some.first ∷ c.args.known.now.others.items in
    let next = given_then (drop (c.loop-at.at + 1) ks) values c.args.graph.now (Ok true) in
    at_place values c.args.graph.now ks c.loop-at.at c.loop-at.invariant c.conjunct_at.result.now c.in-Some-true.field-0 c.conjunct_at.ensures c.in-Some-true.ensures
    ∙ ap (λ (b : Bool). cond b next (Ok false)) c.in-Some-true.field-0-test

pub returns : goal.returns
returns g c =
    let values = map view c.args.row.now in
    let ks = c.in-Some.first ∷ c.args.known.now.others.items in
    ap (λ o. given_then (with_first o c.args.known.now.others.items) values c.args.graph.now (Ok true)) c.in-Some.is
    ∙ at_end values c.args.graph.now ks c.loop-at.at c.loop-at.invariant (omega (arith, c.len-at-end.ensures, c.loop-at-test.false))
