-- The same names bring the same faults, in whichever order they stand.
use Rattle.std.proofs.Common.{◌≡◌, ℕ, Bool, not, List, [], ◌∷◌, ◌++◌, Option, Some, None, refl, ap, ◌∙◌}
use Rattle.std.specs.Prelude.{◌||◌, ◌&&◌, bytes_eq}
use Rattle.pg_meaning.specs.Names.{Names, is_among}
use Rattle.pg_meaning.specs.Scopes.{Column}
use Rattle.pg_meaning.specs.StaticFaults.{PlacedFault, Mode, Part, path_part, node_part, relationship_part, Used, used_with, relationship_variable, is_used, is_matching, is_described, new_faults, node_variable_faults, key_faults, properties_faults, detail_faults, relationship_faults, is_free, found_if, part_faults, parts_faults, Role, elsewhere, expression_faults, all_faults, pair_faults, perhaps_faults, when_faults, operand_faults, test_faults, suffix_faults, faults_if_any, item_faults, whole_item}
use Rattle.pg_meaning.specs.Tree.{Name, Expression, Expressions, Pairs, Perhaps, Whens, Operands, Tests, Suffixes, Properties, NodePattern, Detail, RelationshipPattern, Item}
use Rattle.pg_meaning.specs.Tree as tree
use Rattle.pg_meaning.specs.declared.fault.Fault.TheVariants.{UndefinedVariable, VariableAlreadyBound, BadPattern, BadAggregate, UnknownFunction, DuplicateColumn}
use Rattle.pg_meaning.specs.StaticFaults.{is_aggregate, is_elsewhere, is_known, argument_count}
use Rattle.pg_scope.specs.Names.{HasSame}

joined : {a b c d : List PlacedFault} → a ≡ b → c ≡ d → a ++ c ≡ b ++ d
joined {a} {b} {c} {d} e h = ap (λ x. x ++ c) e ∙ ap (λ x. b ++ x) h

module _ (ns ms : Names) (s : HasSame ns ms) where
  mutual
    pub expression_same : (role : Role) (x : Expression) → expression_faults ns role x ≡ expression_faults ms role x
    expression_same role (tree.literal v) = refl
    expression_same role (tree.parameter n) = refl
    expression_same role (tree.variable n) = ap (λ b. found_if (not b) n.place UndefinedVariable) (s.is n.text)
    expression_same role (tree.list_literal xs) = all_same xs
    expression_same role (tree.map_literal ps) = pair_same ps
    expression_same role (tree.parentheses x) = expression_same elsewhere x
    expression_same role (tree.call n star distinct xs) =
        ap (λ fs. found_if (is_aggregate n && is_elsewhere role) n.place BadAggregate ++ found_if (not (is_known n star distinct (argument_count xs))) n.place UnknownFunction ++ fs) (all_same xs)
    expression_same role (tree.case subject whens otherwise) = joined (joined (perhaps_same subject) (when_same whens)) (perhaps_same otherwise)
    expression_same role (tree.chain x os) = joined (expression_same elsewhere x) (operand_same os)
    expression_same role (tree.negation n x) = expression_same elsewhere x
    expression_same role (tree.signs bs x) = expression_same elsewhere x
    expression_same role (tree.tests x ts) = joined (expression_same elsewhere x) (test_same ts)
    expression_same role (tree.suffixes x xs ls) = joined (expression_same elsewhere x) (suffix_same xs)

    all_same : (xs : Expressions) → all_faults ns xs ≡ all_faults ms xs
    all_same tree.no_expressions = refl
    all_same (tree.expression x xs) = joined (expression_same elsewhere x) (all_same xs)

    pair_same : (ps : Pairs) → pair_faults ns ps ≡ pair_faults ms ps
    pair_same tree.no_pairs = refl
    pair_same (tree.pair n x ps) = joined (expression_same elsewhere x) (pair_same ps)

    perhaps_same : (x : Perhaps) → perhaps_faults ns x ≡ perhaps_faults ms x
    perhaps_same tree.absent = refl
    perhaps_same (tree.present x) = expression_same elsewhere x

    when_same : (ws : Whens) → when_faults ns ws ≡ when_faults ms ws
    when_same tree.no_whens = refl
    when_same (tree.when x y ws) = joined (joined (expression_same elsewhere x) (expression_same elsewhere y)) (when_same ws)

    operand_same : (os : Operands) → operand_faults ns os ≡ operand_faults ms os
    operand_same tree.no_operands = refl
    operand_same (tree.operand o x os) = joined (expression_same elsewhere x) (operand_same os)

    test_same : (ts : Tests) → test_faults ns ts ≡ test_faults ms ts
    test_same tree.no_tests = refl
    test_same (tree.text_test t x ts) = joined (expression_same elsewhere x) (test_same ts)
    test_same (tree.null_test negated ts) = test_same ts

    suffix_same : (xs : Suffixes) → suffix_faults ns xs ≡ suffix_faults ms xs
    suffix_same tree.no_suffixes = refl
    suffix_same (tree.property n xs) = suffix_same xs
    suffix_same (tree.index x xs) = joined (expression_same elsewhere x) (suffix_same xs)

  pub if_any_same : (x : Option Expression) → faults_if_any ns x ≡ faults_if_any ms x
  if_any_same None = refl
  if_any_same (Some x) = expression_same elsewhere x

  -- ---- patterns

  key_same : (before : Names) (ps : Pairs) → key_faults ns before ps ≡ key_faults ms before ps
  key_same before tree.no_pairs = refl
  key_same before (tree.pair n x ps) = joined (ap (λ fs. found_if (is_among before n.text) n.place BadPattern ++ fs) (expression_same elsewhere x)) (key_same (n.text ∷ before) ps)

  properties_same : (mode : Mode) (at : ℕ) (ps : Properties) → properties_faults mode ns at ps ≡ properties_faults mode ms at ps
  properties_same mode at tree.no_properties = refl
  properties_same mode at (tree.given ps) = key_same [] ps
  properties_same mode at (tree.from_parameter n) = refl

  detail_same : (mode : Mode) (at : ℕ) (d : Option Detail) → detail_faults mode ns at d ≡ detail_faults mode ms at d
  detail_same mode at None = refl
  detail_same mode at (Some d) = ap (λ fs. found_if (is_free d.range) at BadPattern ++ fs) (properties_same mode at d.properties)

  relationship_same : (mode : Mode) (r : RelationshipPattern) → relationship_faults mode ns r ≡ relationship_faults mode ms r
  relationship_same mode r = joined refl (detail_same mode r.place r.detail)

  new_same : (u : Used) (n : Option Name) → new_faults ns u n ≡ new_faults ms u n
  new_same u None = refl
  new_same u (Some n) = ap (λ b. found_if (b || is_used u n.text) n.place VariableAlreadyBound) (s.is n.text)

  node_same : (mode : Mode) (u : Used) (is_whole : Bool) (x : NodePattern) (n : Option Name) → node_variable_faults mode ns u is_whole x n ≡ node_variable_faults mode ms u is_whole x n
  node_same mode u is_whole x None = refl
  node_same mode u is_whole x (Some n) =
      ap (λ b. found_if (is_among u.others n.text || (not (is_matching mode) && (b || is_used u n.text) && is_described is_whole x)) n.place VariableAlreadyBound) (s.is n.text)

  part_same : (mode : Mode) (u : Used) (x : Part) → part_faults mode ns u x ≡ part_faults mode ms u x
  part_same mode u (path_part n) = new_same u (Some n)
  part_same mode u (node_part is_whole x) = joined (node_same mode u is_whole x x.variable) (properties_same mode x.place x.properties)
  part_same mode u (relationship_part r) = joined (new_same u (relationship_variable r)) (relationship_same mode r)

  pub parts_same : (mode : Mode) (u : Used) (xs : List Part) → parts_faults mode ns u xs ≡ parts_faults mode ms u xs
  parts_same mode u [] = refl
  parts_same mode u (x ∷ xs) = joined (part_same mode u x) (parts_same mode (used_with x u) xs)

-- ---- columns

pub items_same : (column : Item → Column) (ns ms : Names) → HasSame ns ms → (before after : Names) → HasSame before after → (xs : List Item) → item_faults column ns before xs ≡ item_faults column ms after xs
items_same column ns ms s before after t [] = refl
items_same column ns ms s before after t (x ∷ xs) =
    let name = (column x).name in
    joined (joined (ap (λ b. found_if b x.start DuplicateColumn) (t.is name)) (expression_same ns ms s whole_item x.value))
    (items_same column ns ms s (name ∷ before) (name ∷ after) (record { is = λ n. ap (λ b. bytes_eq n name || b) (t.is n) }) xs)
