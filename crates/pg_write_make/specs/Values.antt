-- The parts of what an element's properties are.
use Rattle.std.specs.Prelude.{ℕ, List, map, Result, Ok, string_bytes}
use Rattle.pg_meaning.specs.Answer.{◌>>=◌, each_answer}
use Rattle.pg_meaning.specs.Graph.{Graph}
use Rattle.pg_meaning.specs.Tree.{Expression}
use Rattle.pg_meaning.specs.Updates.{given_pairs}
use Rattle.pg_meaning.specs.Value.{Value as Datum}
use Rattle.pg_meaning.specs.declared.fault.Fault.{Fault}
use Rattle.pg_syntax_tree.specs.View.{expression_view, properties_view}
use Rattle.pg_syntax_tree.specs.declared.expression.Expression.{Expression as Code}
use Rattle.pg_syntax_tree.specs.declared.expression.Name.{Name}
use Rattle.pg_syntax_tree.specs.declared.patterns.Properties.{Properties}
use Rattle.pg_value_core.specs.declared.value.Value.{Value}
use Rattle.pg_write_make.specs.Scenes.{value_given, row_in, parameters_in}
use Rattle.pg_write_make.specs.declared.clause_scope.ClauseScope.{ClauseScope}

-- keys with their expressions
abbrev pub pair_wanted : Name × Code → List ℕ × Expression
pair_wanted p = (string_bytes p.0.text, expression_view p.1)

abbrev pub pairs_wanted : List (Name × Code) → List (List ℕ × Expression)
pairs_wanted ps = map pair_wanted ps

-- what they give, one after the other
abbrev pub pair_given : ClauseScope → Graph → List Value → List ℕ × Expression → Result (List ℕ × Datum) Fault
pair_given s graph row p = value_given s graph row p.1 >>= λ v. Ok (p.0, v)

abbrev pub pairs_given : ClauseScope → Graph → List Value → List (List ℕ × Expression) → Result (List (List ℕ × Datum)) Fault
pairs_given s graph row ps = each_answer (pair_given s graph row) ps

-- the pairs of an element
abbrev pub element_pairs : ClauseScope → Graph → List Value → Properties → Result (List (List ℕ × Datum)) Fault
element_pairs s graph row ps = given_pairs (parameters_in s) graph (row_in s row) (properties_view ps)
