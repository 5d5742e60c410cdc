-- What an expression is.
use Rattle.std.specs.Prelude.{◌≡◌, Box, Option, Vec}
use Rattle.std.specs.declared.alloc.Global.{Global}
use Rattle.pg_meaning.specs.declared.operators.Operator.{Operator}
use Rattle.pg_syntax_tree.specs.declared.expression.Expression.{Expression}
use Rattle.pg_syntax_tree.specs.declared.expression.Expression.TheVariants.{Case, Chain, Tests, Suffixes}
use Rattle.pg_syntax_tree.specs.declared.expression.Name.{Name}
use Rattle.pg_syntax_tree.specs.declared.expression.Suffix.{Suffix}
use Rattle.pg_syntax_tree.specs.declared.expression.Test.{Test}

pub record IsCase (e : Expression) : Type 0 where
  pub subject : Option (Box Expression Global)
  pub whens : Vec (Expression × Expression) Global
  pub otherwise : Option (Box Expression Global)
  pub is : e ≡ Case subject whens otherwise

pub record IsChain (e : Expression) : Type 0 where
  pub first : Box Expression Global
  pub operands : Vec (Operator × Expression) Global
  pub is : e ≡ Chain first operands

pub record AreTests (e : Expression) : Type 0 where
  pub first : Box Expression Global
  pub tests : Vec (Test Expression) Global
  pub is : e ≡ Tests first tests

pub record AreSuffixes (e : Expression) : Type 0 where
  pub first : Box Expression Global
  pub suffixes : Vec (Suffix Expression) Global
  pub names : Vec Name Global
  pub is : e ≡ Suffixes first suffixes names
