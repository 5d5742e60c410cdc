-- The data that the program's trees stand for.
use Rattle.std.specs.Prelude.{Bool, List, [], ◌∷◌, map, Option, Some, None, option_map, string_bytes, Box}
use Rattle.std.specs.declared.alloc.Global.{Global}
use Rattle.pg_meaning.specs.Parse.{expressions_of, pairs_of, whens_of, operands_of, perhaps_of}
use Rattle.pg_meaning.specs.Value as value
use Rattle.pg_meaning.specs.Tree as tree
use Rattle.pg_meaning.specs.declared.operators.Operator.{Operator}
use Rattle.pg_syntax_tree.specs.declared.expression.Name.{Name}
use Rattle.pg_syntax_tree.specs.declared.expression.Literal.{Literal}
use Rattle.pg_syntax_tree.specs.declared.expression.Literal.TheVariants as literal
use Rattle.pg_syntax_tree.specs.declared.expression.Suffix.{Suffix}
use Rattle.pg_syntax_tree.specs.declared.expression.Suffix.TheVariants as suffix
use Rattle.pg_syntax_tree.specs.declared.expression.Test.{Test}
use Rattle.pg_syntax_tree.specs.declared.expression.Test.TheVariants as test
use Rattle.pg_syntax_tree.specs.declared.expression.Expression.{Expression, fold-Expression}
use Rattle.pg_syntax_tree.specs.declared.expression.Expression.TheOpen.{Expression-F}
use Rattle.pg_syntax_tree.specs.declared.patterns.Properties.{Properties}
use Rattle.pg_syntax_tree.specs.declared.patterns.Properties.TheVariants as properties
use Rattle.pg_syntax_tree.specs.declared.patterns.NodePattern.{NodePattern}
use Rattle.pg_syntax_tree.specs.declared.patterns.Range.{Range}
use Rattle.pg_syntax_tree.specs.declared.patterns.TypeName.{TypeName}
use Rattle.pg_syntax_tree.specs.declared.patterns.Detail.{Detail}
use Rattle.pg_syntax_tree.specs.declared.patterns.RelationshipPattern.{RelationshipPattern}
use Rattle.pg_syntax_tree.specs.declared.patterns.PathPattern.{PathPattern}
use Rattle.pg_syntax_tree.specs.declared.clauses.Item.{Item}
use Rattle.pg_syntax_tree.specs.declared.clauses.SortItem.{SortItem}
use Rattle.pg_syntax_tree.specs.declared.clauses.Projection.{Projection}
use Rattle.pg_syntax_tree.specs.declared.clauses.SetItem.{SetItem}
use Rattle.pg_syntax_tree.specs.declared.clauses.SetItem.TheVariants as set_item
use Rattle.pg_syntax_tree.specs.declared.clauses.RemoveItem.{RemoveItem}
use Rattle.pg_syntax_tree.specs.declared.clauses.RemoveItem.TheVariants as remove_item
use Rattle.pg_syntax_tree.specs.declared.clauses.On.{On}
use Rattle.pg_syntax_tree.specs.declared.clauses.Clause.{Clause}
use Rattle.pg_syntax_tree.specs.declared.clauses.Clause.TheVariants as clause
use Rattle.pg_syntax_tree.specs.declared.clauses.Query.{Query}

abbrev pub name_view : Name → tree.Name
name_view n = record { text = string_bytes n.text; quoted = n.quoted; place = n.place }

abbrev pub names_view : List Name → List tree.Name
names_view ns = map name_view ns

abbrev pub literal_view : Literal → value.Value
literal_view literal.Null = value.null
literal_view (literal.Boolean b) = value.boolean b
literal_view (literal.Integer i) = value.integer i
literal_view (literal.Text s) = value.text (string_bytes s)

abbrev pub suffixes_of : List (Suffix tree.Expression) → tree.Suffixes
suffixes_of [] = tree.no_suffixes
suffixes_of (suffix.Property n ∷ xs) = tree.property (name_view n) (suffixes_of xs)
suffixes_of (suffix.Index x ∷ xs) = tree.index x (suffixes_of xs)

abbrev pub tests_of : List (Test tree.Expression) → tree.Tests
tests_of [] = tree.no_tests
tests_of (test.Text t x ∷ xs) = tree.text_test t x (tests_of xs)
tests_of (test.IsNull negated ∷ xs) = tree.null_test negated (tests_of xs)

abbrev pub perhaps : Option (Box tree.Expression Global) → tree.Perhaps
perhaps None = tree.absent
perhaps (Some x) = tree.present x.value

-- one level, with each expression inside already seen as its data
abbrev pub view_step : Expression-F tree.Expression → tree.Expression
view_step (Expression-F.Literal l) = tree.literal (literal_view l)
view_step (Expression-F.Parameter n) = tree.parameter (name_view n)
view_step (Expression-F.Variable n) = tree.variable (name_view n)
view_step (Expression-F.ListLiteral xs) = tree.list_literal (expressions_of xs.items)
view_step (Expression-F.MapLiteral ps) = tree.map_literal (pairs_of (map (λ p. (name_view p.0, p.1)) ps.items))
view_step (Expression-F.Parentheses x) = tree.parentheses x.value
view_step (Expression-F.Call n star distinct xs) = tree.call (name_view n) star distinct (expressions_of xs.items)
view_step (Expression-F.Case subject whens otherwise) = tree.case (perhaps subject) (whens_of whens.items) (perhaps otherwise)
view_step (Expression-F.Chain x os) = tree.chain x.value (operands_of os.items)
view_step (Expression-F.Negation n x) = tree.negation n x.value
view_step (Expression-F.Signs bs x) = tree.signs bs.items x.value
view_step (Expression-F.Tests x ts) = tree.tests x.value (tests_of ts.items)
view_step (Expression-F.Suffixes x xs ls) = tree.suffixes x.value (suffixes_of xs.items) (names_view ls.items)

abbrev pub expression_view : Expression → tree.Expression
expression_view = fold-Expression tree.Expression view_step

-- ---- parts of expressions

abbrev pub pair_view : Name × Expression → tree.Name × tree.Expression
pair_view p = (name_view p.0, expression_view p.1)

abbrev pub when_view : Expression × Expression → tree.Expression × tree.Expression
when_view p = (expression_view p.0, expression_view p.1)

abbrev pub operand_view : Operator × Expression → Operator × tree.Expression
operand_view p = (p.0, expression_view p.1)

abbrev pub test_view : Test Expression → Test tree.Expression
test_view (test.Text t x) = test.Text t (expression_view x)
test_view (test.IsNull negated) = test.IsNull negated

abbrev pub suffix_view : Suffix Expression → Suffix tree.Expression
suffix_view (suffix.Property n) = suffix.Property n
suffix_view (suffix.Index x) = suffix.Index (expression_view x)

abbrev pub perhaps_view : Option (Box Expression Global) → tree.Perhaps
perhaps_view x = perhaps_of (option_map (λ b. expression_view b.value) x)

-- ---- patterns

abbrev pub properties_view : Properties → tree.Properties
properties_view properties.None = tree.no_properties
properties_view (properties.Given ps) = tree.given (pairs_of (map pair_view ps.items))
properties_view (properties.Parameter n) = tree.from_parameter (name_view n)

abbrev pub node_view : NodePattern → tree.NodePattern
node_view n = record { place = n.place; variable = option_map name_view n.variable; labels = names_view n.labels.items; properties = properties_view n.properties }

abbrev pub range_view : Range → tree.Range
range_view r = record { lower = r.lower; dots = r.dots; upper = r.upper }

abbrev pub type_view : TypeName → Bool × tree.Name
type_view t = (t.colon, name_view t.name)

abbrev pub detail_view : Detail → tree.Detail
detail_view d = record { variable = option_map name_view d.variable; types = map type_view d.types.items; range = option_map range_view d.range; properties = properties_view d.properties }

abbrev pub relationship_view : RelationshipPattern → tree.RelationshipPattern
relationship_view r = record { place = r.place; left_head = r.left_head; detail = option_map detail_view r.detail; right_head = r.right_head }

abbrev pub hop_view : RelationshipPattern × NodePattern → tree.RelationshipPattern × tree.NodePattern
hop_view h = (relationship_view h.0, node_view h.1)

abbrev pub path_view : PathPattern → tree.PathPattern
path_view p = record { variable = option_map name_view p.variable; first = node_view p.first; hops = map hop_view p.hops.items }

-- ---- clauses

abbrev pub item_view : Item → tree.Item
item_view x = record { start = x.start; source = string_bytes x.source; value = expression_view x.value; alias = option_map name_view x.alias }

abbrev pub sort_item_view : SortItem → tree.SortItem
sort_item_view x = record { key = expression_view x.key; direction = x.direction }

abbrev pub projection_view : Projection → tree.Projection
projection_view p = record { distinct = p.distinct; star = p.star; items = map item_view p.items.items; order = map sort_item_view p.order.items; skip = option_map expression_view p.skip; limit = option_map expression_view p.limit }

abbrev pub set_item_view : SetItem → tree.SetItem
set_item_view (set_item.Property n m x) = tree.set_property (name_view n) (name_view m) (expression_view x)
set_item_view (set_item.All n x) = tree.set_all (name_view n) (expression_view x)
set_item_view (set_item.More n x) = tree.set_more (name_view n) (expression_view x)
set_item_view (set_item.Labels n ls) = tree.set_labels (name_view n) (names_view ls.items)

abbrev pub remove_item_view : RemoveItem → tree.RemoveItem
remove_item_view (remove_item.Property n m) = tree.remove_property (name_view n) (name_view m)
remove_item_view (remove_item.Labels n ls) = tree.remove_labels (name_view n) (names_view ls.items)

abbrev pub on_view : On → Bool × List tree.SetItem
on_view o = (o.create, map set_item_view o.items.items)

abbrev pub clause_view : Clause → tree.Clause
clause_view (clause.Match is_optional ps condition) = tree.match_paths is_optional (map path_view ps.items) (option_map expression_view condition)
clause_view (clause.Unwind x n) = tree.unwind (expression_view x) (name_view n)
clause_view (clause.Create ps) = tree.create (map path_view ps.items)
clause_view (clause.Merge p os) = tree.merge (path_view p) (map on_view os.items)
clause_view (clause.Set xs) = tree.set_items (map set_item_view xs.items)
clause_view (clause.Remove xs) = tree.remove_items (map remove_item_view xs.items)
clause_view (clause.Delete is_detach xs) = tree.delete is_detach (map expression_view xs.items)
clause_view (clause.With p condition) = tree.with_rows (projection_view p) (option_map expression_view condition)
clause_view (clause.Return p) = tree.return_rows (projection_view p)

abbrev pub query_view : Query → tree.Query
query_view q = record { clauses = map clause_view q.clauses.items; semicolon = q.semicolon }
