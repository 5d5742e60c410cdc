use Rattle.std.proofs.Common.{◌≡◌, ◌∷◌, drop, length}
use Rattle.pg_expr.proofs.ChainLemmas.{conjuncts_from}
use Rattle.pg_expr.specs.KnownConjuncts.{StandFor}
use Rattle.pg_syntax_tree.specs.View.{expression_view}
use Rattle.pg_value_core.specs.Given.{parameters_view}
use Rattle.pg_expr.proofs.known_conjuncts.known_in_chain.Given as goal

abbrev pub invariant-loop-operand : goal.invariant-loop-operand
invariant-loop-operand l =
    (length l.others.items ≡ l.operand-index)
    × StandFor l.names (parameters_view l.parameters) (l.known ∷ l.others.items) (expression_view l.first ∷ conjuncts_from l.operands.items) (conjuncts_from (drop l.operand-index l.operands.items))
