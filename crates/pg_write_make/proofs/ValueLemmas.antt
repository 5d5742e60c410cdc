-- The properties of a pattern in turn.
use Rattle.std.proofs.Common.{◌≡◌, ◌≢◌, ℕ, List, [], ◌∷◌, map, Result, Ok, Err, refl, ap, ◌∙◌}
use Rattle.std.specs.declared.alloc.Global.{Global}
use Rattle.std.specs.Borrow.{Bor}
use Rattle.std.specs.Prelude.{Vec, IfOk, IfErr}
use Rattle.pg_meaning.specs.Answer.{each_answer}
use Rattle.pg_meaning.specs.Graph.{Graph}
use Rattle.pg_meaning.specs.Parse.{pairs_of}
use Rattle.pg_meaning.specs.Patterns.{pair_list}
use Rattle.pg_meaning.specs.declared.fault.Fault.{Fault}
use Rattle.pg_meaning.specs.declared.fault.Fault.TheVariants.{OutOfMemory}
use Rattle.pg_store.specs.Stores.{pairs_of as entered}
use Rattle.pg_syntax_tree.specs.View.{pair_view}
use Rattle.pg_syntax_tree.specs.declared.expression.Expression.{Expression}
use Rattle.pg_syntax_tree.specs.declared.expression.Name.{Name}
use Rattle.pg_syntax_tree.specs.declared.patterns.Properties.{Properties}
use Rattle.pg_syntax_tree.specs.declared.patterns.Properties.TheVariants as properties
use Rattle.pg_value_core.specs.declared.value.Value.{Value}
use Rattle.pg_write_make.specs.Values.{pair_given, pairs_given, pair_wanted, pairs_wanted, element_pairs}
use Rattle.pg_write_make.specs.declared.clause_scope.ClauseScope.{ClauseScope}

pairs_are : (ps : List (Name × Expression)) → pair_list (pairs_of (map pair_view ps)) ≡ pairs_wanted ps
pairs_are [] = refl
pairs_are (p ∷ ps) = ap (λ ws. pair_wanted p ∷ ws) (pairs_are ps)

pub given_are : (s : ClauseScope) (graph : Graph) (row : List Value) (ps : Vec (Name × Expression) Global) → element_pairs s graph row (properties.Given ps) ≡ pairs_given s graph row (pairs_wanted ps.items)
given_are s graph row ps = ap (each_answer (pair_given s graph row)) (pairs_are ps.items)

module _ (s : ClauseScope) (graph : Graph) (row : List Value) (given : Properties) (ps : Vec (Name × Expression) Global) (is : given ≡ properties.Given ps) where
  given_here : element_pairs s graph row given ≡ pairs_given s graph row (pairs_wanted ps.items)
  given_here = ap (element_pairs s graph row) is ∙ given_are s graph row ps

  pub given_ok : (r : Result (Vec (Bor (List ℕ) × Value) Global) Fault) → IfOk r (λ vs. pairs_given s graph row (pairs_wanted ps.items) ≡ Ok (entered vs.items)) → IfOk r (λ vs. element_pairs s graph row given ≡ Ok (entered vs.items))
  given_ok (Ok vs) h = given_here ∙ h
  given_ok (Err e) h = tt

  pub given_err : {X : Type 0} (r : Result X Fault) → IfErr r (λ e. e ≢ OutOfMemory → pairs_given s graph row (pairs_wanted ps.items) ≡ Err e) → IfErr r (λ e. e ≢ OutOfMemory → element_pairs s graph row given ≡ Err e)
  given_err (Ok vs) h = tt
  given_err (Err e) h = λ other. given_here ∙ h other
