use Rattle.std.proofs.Common.{◌≡◌, [], ◌∷◌, List, Some, true, length, refl, sym, subst}
use Rattle.pg_expr.proofs.KnownLemmas.{one_known}
use Rattle.pg_expr.specs.KnownConjuncts.{StandFor, left_behind}
use Rattle.pg_expr.specs.declared.known_conjuncts.KnownConjunct.{KnownConjunct}
use Rattle.pg_meaning.specs.Conditions.{conjuncts}
use Rattle.pg_meaning.specs.Tree as tree
use Rattle.pg_syntax_tree.specs.View.{expression_view}
use Rattle.pg_value_core.specs.Given.{parameters_view}
use Rattle.pg_expr.proofs.known_conjuncts.known_conjuncts.Goals as goal

pub returns-in-Some-known_conjunct : goal.returns-in-Some-known_conjunct
returns-in-Some-known_conjunct c =
    let names = c.args.names.now in
    let ps = parameters_view c.args.parameters.now in
    let e = expression_view c.args.condition.now in
    let k = c.in-Some-known_conjunct.known in
    let others = c.new.result.items in
    subst (λ (es : List tree.Expression). StandFor names ps (k ∷ others) es (left_behind (Some k) others es) × (true ≡ true → length (left_behind (Some k) others es) ≡ 0)) (sym c.in_default.ensures.none)
    (subst (λ (ks : List KnownConjunct). StandFor names ps (k ∷ ks) (e ∷ []) (left_behind (Some k) ks (e ∷ [])) × (true ≡ true → length (left_behind (Some k) ks (e ∷ [])) ≡ 0)) (sym c.new.ensures.items)
    (one_known names ps k e [] c.in-Some-known_conjunct.ensures, λ all. refl))

pub returns-in-None : goal.returns-in-None
returns-in-None c = c.nothing_known.ensures c.args.names.now (parameters_view c.args.parameters.now) (conjuncts (expression_view c.args.condition.now))
