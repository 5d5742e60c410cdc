-- Two expressions of other forms are not one tree.
use Rattle.std.proofs.Common.{◌≡◌, ℕ, Bool, false, List, Option, Vec, Box, Global, sym, ap, ◌∙◌}
use Rattle.pg_meaning.specs.Tree as tree
use Rattle.pg_meaning.specs.Trees.{same_expression}
use Rattle.pg_meaning.specs.Value.{Value as Datum}
use Rattle.pg_meaning.specs.declared.operators.Operator.{Operator}
use Rattle.pg_syntax_tree.specs.View.{expression_view, name_view, view_step}
use Rattle.pg_syntax_tree.specs.declared.expression.Expression.{Expression}
use Rattle.pg_syntax_tree.specs.declared.expression.Expression.TheFolds.{fold-roll-Expression}
use Rattle.pg_syntax_tree.specs.declared.expression.Expression.TheOpen.{Expression-F}
use Rattle.pg_syntax_tree.specs.declared.expression.Expression.TheVariants as code
use Rattle.pg_syntax_tree.specs.declared.expression.Expression.TheViews.{out-Expression, roll-Expression, roll-out-Expression, rolls-Literal, rolls-Parameter, rolls-Variable, rolls-ListLiteral, rolls-MapLiteral, rolls-Parentheses, rolls-Call, rolls-Case, rolls-Chain, rolls-Negation, rolls-Signs, rolls-Tests, rolls-Suffixes}
use Rattle.pg_syntax_tree.specs.declared.expression.Literal.{Literal}
use Rattle.pg_syntax_tree.specs.declared.expression.Name.{Name}
use Rattle.pg_syntax_tree.specs.declared.expression.Suffix.{Suffix}
use Rattle.pg_syntax_tree.specs.declared.expression.Test.{Test}

literal_apart : (v : Datum) (b : Expression) (part : Expression-F Expression) → roll-Expression part ≡ b → ((x : Literal) → b ≡ code.Literal x → ⊥) → false ≡ same_expression (tree.literal v) (expression_view b)
literal_apart v b (Expression-F.Literal x) same none = absurd (none x (sym same ∙ rolls-Literal x))
literal_apart v b part same none = ap (same_expression (tree.literal v)) (sym (fold-roll-Expression tree.Expression view_step part) ∙ ap expression_view same)

pub other_literal : {a b : Expression} (x : Literal) → a ≡ code.Literal x → ((x : Literal) → b ≡ code.Literal x → ⊥) → false ≡ same_expression (expression_view a) (expression_view b)
other_literal {a} {b} x is none =
    literal_apart _ b (out-Expression b) (roll-out-Expression b) none
    ∙ ap (λ e. same_expression e (expression_view b)) (sym (ap expression_view (is ∙ sym (rolls-Literal x)) ∙ fold-roll-Expression tree.Expression view_step (Expression-F.Literal x)))

parameter_apart : (n : tree.Name) (b : Expression) (part : Expression-F Expression) → roll-Expression part ≡ b → ((x : Name) → b ≡ code.Parameter x → ⊥) → false ≡ same_expression (tree.parameter n) (expression_view b)
parameter_apart n b (Expression-F.Parameter x) same none = absurd (none x (sym same ∙ rolls-Parameter x))
parameter_apart n b part same none = ap (same_expression (tree.parameter n)) (sym (fold-roll-Expression tree.Expression view_step part) ∙ ap expression_view same)

pub other_parameter : {a b : Expression} (x : Name) → a ≡ code.Parameter x → ((x : Name) → b ≡ code.Parameter x → ⊥) → false ≡ same_expression (expression_view a) (expression_view b)
other_parameter {a} {b} x is none =
    parameter_apart (name_view x) b (out-Expression b) (roll-out-Expression b) none
    ∙ ap (λ e. same_expression e (expression_view b)) (sym (ap expression_view (is ∙ sym (rolls-Parameter x)) ∙ fold-roll-Expression tree.Expression view_step (Expression-F.Parameter x)))

variable_apart : (n : tree.Name) (b : Expression) (part : Expression-F Expression) → roll-Expression part ≡ b → ((x : Name) → b ≡ code.Variable x → ⊥) → false ≡ same_expression (tree.variable n) (expression_view b)
variable_apart n b (Expression-F.Variable x) same none = absurd (none x (sym same ∙ rolls-Variable x))
variable_apart n b part same none = ap (same_expression (tree.variable n)) (sym (fold-roll-Expression tree.Expression view_step part) ∙ ap expression_view same)

pub other_variable : {a b : Expression} (x : Name) → a ≡ code.Variable x → ((x : Name) → b ≡ code.Variable x → ⊥) → false ≡ same_expression (expression_view a) (expression_view b)
other_variable {a} {b} x is none =
    variable_apart (name_view x) b (out-Expression b) (roll-out-Expression b) none
    ∙ ap (λ e. same_expression e (expression_view b)) (sym (ap expression_view (is ∙ sym (rolls-Variable x)) ∙ fold-roll-Expression tree.Expression view_step (Expression-F.Variable x)))

list_literal_apart : (xs : tree.Expressions) (b : Expression) (part : Expression-F Expression) → roll-Expression part ≡ b → ((x : Vec Expression Global) → b ≡ code.ListLiteral x → ⊥) → false ≡ same_expression (tree.list_literal xs) (expression_view b)
list_literal_apart xs b (Expression-F.ListLiteral x) same none = absurd (none x (sym same ∙ rolls-ListLiteral x))
list_literal_apart xs b part same none = ap (same_expression (tree.list_literal xs)) (sym (fold-roll-Expression tree.Expression view_step part) ∙ ap expression_view same)

pub other_list_literal : {a b : Expression} (x : Vec Expression Global) → a ≡ code.ListLiteral x → ((x : Vec Expression Global) → b ≡ code.ListLiteral x → ⊥) → false ≡ same_expression (expression_view a) (expression_view b)
other_list_literal {a} {b} x is none =
    list_literal_apart _ b (out-Expression b) (roll-out-Expression b) none
    ∙ ap (λ e. same_expression e (expression_view b)) (sym (ap expression_view (is ∙ sym (rolls-ListLiteral x)) ∙ fold-roll-Expression tree.Expression view_step (Expression-F.ListLiteral x)))

map_literal_apart : (ps : tree.Pairs) (b : Expression) (part : Expression-F Expression) → roll-Expression part ≡ b → ((x : Vec (Name × Expression) Global) → b ≡ code.MapLiteral x → ⊥) → false ≡ same_expression (tree.map_literal ps) (expression_view b)
map_literal_apart ps b (Expression-F.MapLiteral x) same none = absurd (none x (sym same ∙ rolls-MapLiteral x))
map_literal_apart ps b part same none = ap (same_expression (tree.map_literal ps)) (sym (fold-roll-Expression tree.Expression view_step part) ∙ ap expression_view same)

pub other_map_literal : {a b : Expression} (x : Vec (Name × Expression) Global) → a ≡ code.MapLiteral x → ((x : Vec (Name × Expression) Global) → b ≡ code.MapLiteral x → ⊥) → false ≡ same_expression (expression_view a) (expression_view b)
other_map_literal {a} {b} x is none =
    map_literal_apart _ b (out-Expression b) (roll-out-Expression b) none
    ∙ ap (λ e. same_expression e (expression_view b)) (sym (ap expression_view (is ∙ sym (rolls-MapLiteral x)) ∙ fold-roll-Expression tree.Expression view_step (Expression-F.MapLiteral x)))

parentheses_apart : (e : tree.Expression) (b : Expression) (part : Expression-F Expression) → roll-Expression part ≡ b → ((x : Box Expression Global) → b ≡ code.Parentheses x → ⊥) → false ≡ same_expression (tree.parentheses e) (expression_view b)
parentheses_apart e b (Expression-F.Parentheses x) same none = absurd (none x (sym same ∙ rolls-Parentheses x))
parentheses_apart e b part same none = ap (same_expression (tree.parentheses e)) (sym (fold-roll-Expression tree.Expression view_step part) ∙ ap expression_view same)

pub other_parentheses : {a b : Expression} (x : Box Expression Global) → a ≡ code.Parentheses x → ((x : Box Expression Global) → b ≡ code.Parentheses x → ⊥) → false ≡ same_expression (expression_view a) (expression_view b)
other_parentheses {a} {b} x is none =
    parentheses_apart _ b (out-Expression b) (roll-out-Expression b) none
    ∙ ap (λ e. same_expression e (expression_view b)) (sym (ap expression_view (is ∙ sym (rolls-Parentheses x)) ∙ fold-roll-Expression tree.Expression view_step (Expression-F.Parentheses x)))

call_apart : (n : tree.Name) (star : Bool) (distinct : Bool) (xs : tree.Expressions) (b : Expression) (part : Expression-F Expression) → roll-Expression part ≡ b → ((x : Name) (y : Bool) (z : Bool) (w : Vec Expression Global) → b ≡ code.Call x y z w → ⊥) → false ≡ same_expression (tree.call n star distinct xs) (expression_view b)
call_apart n star distinct xs b (Expression-F.Call x y z w) same none = absurd (none x y z w (sym same ∙ rolls-Call x y z w))
call_apart n star distinct xs b part same none = ap (same_expression (tree.call n star distinct xs)) (sym (fold-roll-Expression tree.Expression view_step part) ∙ ap expression_view same)

pub other_call : {a b : Expression} (x : Name) (y : Bool) (z : Bool) (w : Vec Expression Global) → a ≡ code.Call x y z w → ((x : Name) (y : Bool) (z : Bool) (w : Vec Expression Global) → b ≡ code.Call x y z w → ⊥) → false ≡ same_expression (expression_view a) (expression_view b)
other_call {a} {b} x y z w is none =
    call_apart (name_view x) _ _ _ b (out-Expression b) (roll-out-Expression b) none
    ∙ ap (λ e. same_expression e (expression_view b)) (sym (ap expression_view (is ∙ sym (rolls-Call x y z w)) ∙ fold-roll-Expression tree.Expression view_step (Expression-F.Call x y z w)))

case_apart : (s : tree.Perhaps) (ws : tree.Whens) (o : tree.Perhaps) (b : Expression) (part : Expression-F Expression) → roll-Expression part ≡ b → ((x : Option (Box Expression Global)) (y : Vec (Expression × Expression) Global) (z : Option (Box Expression Global)) → b ≡ code.Case x y z → ⊥) → false ≡ same_expression (tree.case s ws o) (expression_view b)
case_apart s ws o b (Expression-F.Case x y z) same none = absurd (none x y z (sym same ∙ rolls-Case x y z))
case_apart s ws o b part same none = ap (same_expression (tree.case s ws o)) (sym (fold-roll-Expression tree.Expression view_step part) ∙ ap expression_view same)

pub other_case : {a b : Expression} (x : Option (Box Expression Global)) (y : Vec (Expression × Expression) Global) (z : Option (Box Expression Global)) → a ≡ code.Case x y z → ((x : Option (Box Expression Global)) (y : Vec (Expression × Expression) Global) (z : Option (Box Expression Global)) → b ≡ code.Case x y z → ⊥) → false ≡ same_expression (expression_view a) (expression_view b)
other_case {a} {b} x y z is none =
    case_apart _ _ _ b (out-Expression b) (roll-out-Expression b) none
    ∙ ap (λ e. same_expression e (expression_view b)) (sym (ap expression_view (is ∙ sym (rolls-Case x y z)) ∙ fold-roll-Expression tree.Expression view_step (Expression-F.Case x y z)))

chain_apart : (e : tree.Expression) (os : tree.Operands) (b : Expression) (part : Expression-F Expression) → roll-Expression part ≡ b → ((x : Box Expression Global) (y : Vec (Operator × Expression) Global) → b ≡ code.Chain x y → ⊥) → false ≡ same_expression (tree.chain e os) (expression_view b)
chain_apart e os b (Expression-F.Chain x y) same none = absurd (none x y (sym same ∙ rolls-Chain x y))
chain_apart e os b part same none = ap (same_expression (tree.chain e os)) (sym (fold-roll-Expression tree.Expression view_step part) ∙ ap expression_view same)

pub other_chain : {a b : Expression} (x : Box Expression Global) (y : Vec (Operator × Expression) Global) → a ≡ code.Chain x y → ((x : Box Expression Global) (y : Vec (Operator × Expression) Global) → b ≡ code.Chain x y → ⊥) → false ≡ same_expression (expression_view a) (expression_view b)
other_chain {a} {b} x y is none =
    chain_apart _ _ b (out-Expression b) (roll-out-Expression b) none
    ∙ ap (λ e. same_expression e (expression_view b)) (sym (ap expression_view (is ∙ sym (rolls-Chain x y)) ∙ fold-roll-Expression tree.Expression view_step (Expression-F.Chain x y)))

negation_apart : (n : ℕ) (e : tree.Expression) (b : Expression) (part : Expression-F Expression) → roll-Expression part ≡ b → ((x : ℕ) (y : Box Expression Global) → b ≡ code.Negation x y → ⊥) → false ≡ same_expression (tree.negation n e) (expression_view b)
negation_apart n e b (Expression-F.Negation x y) same none = absurd (none x y (sym same ∙ rolls-Negation x y))
negation_apart n e b part same none = ap (same_expression (tree.negation n e)) (sym (fold-roll-Expression tree.Expression view_step part) ∙ ap expression_view same)

pub other_negation : {a b : Expression} (x : ℕ) (y : Box Expression Global) → a ≡ code.Negation x y → ((x : ℕ) (y : Box Expression Global) → b ≡ code.Negation x y → ⊥) → false ≡ same_expression (expression_view a) (expression_view b)
other_negation {a} {b} x y is none =
    negation_apart _ _ b (out-Expression b) (roll-out-Expression b) none
    ∙ ap (λ e. same_expression e (expression_view b)) (sym (ap expression_view (is ∙ sym (rolls-Negation x y)) ∙ fold-roll-Expression tree.Expression view_step (Expression-F.Negation x y)))

signs_apart : (bs : List Bool) (e : tree.Expression) (b : Expression) (part : Expression-F Expression) → roll-Expression part ≡ b → ((x : Vec Bool Global) (y : Box Expression Global) → b ≡ code.Signs x y → ⊥) → false ≡ same_expression (tree.signs bs e) (expression_view b)
signs_apart bs e b (Expression-F.Signs x y) same none = absurd (none x y (sym same ∙ rolls-Signs x y))
signs_apart bs e b part same none = ap (same_expression (tree.signs bs e)) (sym (fold-roll-Expression tree.Expression view_step part) ∙ ap expression_view same)

pub other_signs : {a b : Expression} (x : Vec Bool Global) (y : Box Expression Global) → a ≡ code.Signs x y → ((x : Vec Bool Global) (y : Box Expression Global) → b ≡ code.Signs x y → ⊥) → false ≡ same_expression (expression_view a) (expression_view b)
other_signs {a} {b} x y is none =
    signs_apart _ _ b (out-Expression b) (roll-out-Expression b) none
    ∙ ap (λ e. same_expression e (expression_view b)) (sym (ap expression_view (is ∙ sym (rolls-Signs x y)) ∙ fold-roll-Expression tree.Expression view_step (Expression-F.Signs x y)))

tests_apart : (e : tree.Expression) (ts : tree.Tests) (b : Expression) (part : Expression-F Expression) → roll-Expression part ≡ b → ((x : Box Expression Global) (y : Vec (Test Expression) Global) → b ≡ code.Tests x y → ⊥) → false ≡ same_expression (tree.tests e ts) (expression_view b)
tests_apart e ts b (Expression-F.Tests x y) same none = absurd (none x y (sym same ∙ rolls-Tests x y))
tests_apart e ts b part same none = ap (same_expression (tree.tests e ts)) (sym (fold-roll-Expression tree.Expression view_step part) ∙ ap expression_view same)

pub other_tests : {a b : Expression} (x : Box Expression Global) (y : Vec (Test Expression) Global) → a ≡ code.Tests x y → ((x : Box Expression Global) (y : Vec (Test Expression) Global) → b ≡ code.Tests x y → ⊥) → false ≡ same_expression (expression_view a) (expression_view b)
other_tests {a} {b} x y is none =
    tests_apart _ _ b (out-Expression b) (roll-out-Expression b) none
    ∙ ap (λ e. same_expression e (expression_view b)) (sym (ap expression_view (is ∙ sym (rolls-Tests x y)) ∙ fold-roll-Expression tree.Expression view_step (Expression-F.Tests x y)))

suffixes_apart : (e : tree.Expression) (ss : tree.Suffixes) (ls : List tree.Name) (b : Expression) (part : Expression-F Expression) → roll-Expression part ≡ b → ((x : Box Expression Global) (y : Vec (Suffix Expression) Global) (z : Vec Name Global) → b ≡ code.Suffixes x y z → ⊥) → false ≡ same_expression (tree.suffixes e ss ls) (expression_view b)
suffixes_apart e ss ls b (Expression-F.Suffixes x y z) same none = absurd (none x y z (sym same ∙ rolls-Suffixes x y z))
suffixes_apart e ss ls b part same none = ap (same_expression (tree.suffixes e ss ls)) (sym (fold-roll-Expression tree.Expression view_step part) ∙ ap expression_view same)

pub other_suffixes : {a b : Expression} (x : Box Expression Global) (y : Vec (Suffix Expression) Global) (z : Vec Name Global) → a ≡ code.Suffixes x y z → ((x : Box Expression Global) (y : Vec (Suffix Expression) Global) (z : Vec Name Global) → b ≡ code.Suffixes x y z → ⊥) → false ≡ same_expression (expression_view a) (expression_view b)
other_suffixes {a} {b} x y z is none =
    suffixes_apart _ _ _ b (out-Expression b) (roll-out-Expression b) none
    ∙ ap (λ e. same_expression e (expression_view b)) (sym (ap expression_view (is ∙ sym (rolls-Suffixes x y z)) ∙ fold-roll-Expression tree.Expression view_step (Expression-F.Suffixes x y z)))
