-- What the expressions that are made of others stand for: what is made of what their parts stand for.
use Rattle.std.specs.Prelude.{◌≡◌, ℕ, Bool, Option, map, Box, Vec}
use Rattle.std.specs.declared.alloc.Global.{Global}
use Rattle.pg_meaning.specs.Parse.{expressions_of, pairs_of, whens_of, operands_of}
use Rattle.pg_meaning.specs.Tree as tree
use Rattle.pg_meaning.specs.declared.operators.Operator.{Operator}
use Rattle.pg_syntax_tree.specs.View.{expression_view, name_view, names_view, pair_view, when_view, operand_view, test_view, tests_of, suffix_view, suffixes_of, perhaps_view}
use Rattle.pg_syntax_tree.specs.declared.expression.Expression.{Expression}
use Rattle.pg_syntax_tree.specs.declared.expression.Expression.TheVariants as expression
use Rattle.pg_syntax_tree.specs.declared.expression.Name.{Name}
use Rattle.pg_syntax_tree.specs.declared.expression.Suffix.{Suffix}
use Rattle.pg_syntax_tree.specs.declared.expression.Test.{Test}

abbrev pub MapIsOfParts : Type 0
MapIsOfParts = (ps : Vec (Name × Expression) Global) → expression_view (expression.MapLiteral ps) ≡ tree.map_literal (pairs_of (map pair_view ps.items))

abbrev pub CallIsOfParts : Type 0
CallIsOfParts = (f : Name) (star distinct : Bool) (xs : Vec Expression Global) → expression_view (expression.Call f star distinct xs) ≡ tree.call (name_view f) star distinct (expressions_of (map expression_view xs.items))

abbrev pub CaseIsOfParts : Type 0
CaseIsOfParts = (subject : Option (Box Expression Global)) (whens : Vec (Expression × Expression) Global) (otherwise : Option (Box Expression Global))
    → expression_view (expression.Case subject whens otherwise) ≡ tree.case (perhaps_view subject) (whens_of (map when_view whens.items)) (perhaps_view otherwise)

abbrev pub ChainIsOfParts : Type 0
ChainIsOfParts = (x : Box Expression Global) (os : Vec (Operator × Expression) Global) → expression_view (expression.Chain x os) ≡ tree.chain (expression_view x.value) (operands_of (map operand_view os.items))

abbrev pub NegationIsOfParts : Type 0
NegationIsOfParts = (n : ℕ) (x : Box Expression Global) → expression_view (expression.Negation n x) ≡ tree.negation n (expression_view x.value)

abbrev pub SignsAreOfParts : Type 0
SignsAreOfParts = (signs : Vec Bool Global) (x : Box Expression Global) → expression_view (expression.Signs signs x) ≡ tree.signs signs.items (expression_view x.value)

abbrev pub TestsAreOfParts : Type 0
TestsAreOfParts = (x : Box Expression Global) (ts : Vec (Test Expression) Global) → expression_view (expression.Tests x ts) ≡ tree.tests (expression_view x.value) (tests_of (map test_view ts.items))

abbrev pub SuffixesAreOfParts : Type 0
SuffixesAreOfParts = (x : Box Expression Global) (ss : Vec (Suffix Expression) Global) (ls : Vec Name Global)
    → expression_view (expression.Suffixes x ss ls) ≡ tree.suffixes (expression_view x.value) (suffixes_of (map suffix_view ss.items)) (names_view ls.items)
