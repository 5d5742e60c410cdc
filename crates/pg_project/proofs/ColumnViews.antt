-- The columns of the program are those of the definitions.
use Rattle.std.proofs.Common.{◌≡◌, ℕ, ◌+◌, ◌<◌, ◌≤◌, List, [], ◌∷◌, ◌++◌, Bor, Ordering, Less, Equal, Greater, map, length, drop, get_or, slice_get, Option, Some, None, refl, sym, ap, subst, ◌∙◌, arith}
use Rattle.std.proofs.lemmas.List.{drop_all, drop_more, length-append, length-map, map-append}
use Rattle.std.specs.BTreeSet.{insert_key}
use Rattle.std.specs.Cmp.Lexicographic.{slice_cmp}
use Rattle.std.specs.Ordering.{nat_cmp, match_ordering}
use Rattle.pg_meaning.specs.Names.{Names}
use Rattle.pg_meaning.specs.Order.{text_order}
use Rattle.pg_meaning.specs.Scopes.{column_names, star_columns, variable_column}
use Rattle.pg_meaning.specs.Tree.{Expression, variable, Item, Projection}
use Rattle.pg_project.proofs.InTurn.{drop_here, drop_none, joined, nothing_behind}
use Rattle.pg_project.specs.Columns.{columns_view, naming_columns, star_names, texts_of, trees_in, values_in_items, variable_tree, variable_trees}
use Rattle.pg_project.specs.Items.{columns_of, expressions_view}
use Rattle.pg_syntax_tree.specs.View.{expression_view, item_view, name_view, view_step}
use Rattle.pg_syntax_tree.specs.declared.expression.Expression.{Expression as Code}
use Rattle.pg_syntax_tree.specs.declared.expression.Expression.TheFolds.{fold-roll-Expression}
use Rattle.pg_syntax_tree.specs.declared.expression.Expression.TheOpen.{Expression-F}
use Rattle.pg_syntax_tree.specs.declared.expression.Expression.TheVariants as code
use Rattle.pg_syntax_tree.specs.declared.expression.Expression.TheViews.{rolls-Variable}
use Rattle.pg_syntax_tree.specs.declared.expression.Name.{Name}
use Rattle.pg_scope.specs.Columns.{column_of}
use Rattle.pg_scope.specs.declared.columns.Naming.{Naming}
use Rattle.pg_scope.specs.declared.columns.Naming.TheVariants.{Variable, Source}
use Rattle.pg_project.specs.declared.projection_columns.ProjectionColumns.{ProjectionColumns}

pub name_pushed : (found names : Names) (i : ℕ) (x : List ℕ) → slice_get names i ≡ Some x → (found ++ x ∷ []) ++ drop (i + 1) names ≡ found ++ drop i names
name_pushed found names i x h = joined found x (drop (i + 1) names) ∙ ap (λ ns. found ++ ns) (sym (drop_here names i x h))

pub all_pushed : (found names : Names) (i : ℕ) → length names ≤ i → found ++ drop i names ≡ found
all_pushed found names i h = ap (λ ns. found ++ ns) (drop_none names i h) ∙ nothing_behind found

-- texts are put in among borrowed ones as among texts
pub text_inserted : (ks : List (Bor (List ℕ))) (k : Bor (List ℕ)) → texts_of (insert_key (λ x y. slice_cmp nat_cmp x.now y.now) ks k) ≡ insert_key text_order (texts_of ks) k.now
text_inserted [] k = refl
text_inserted (x ∷ xs) k = by_order (slice_cmp nat_cmp k.now x.now) (text_inserted xs k)
  where
    by_order : (o : Ordering) → texts_of (insert_key (λ x y. slice_cmp nat_cmp x.now y.now) xs k) ≡ insert_key text_order (texts_of xs) k.now
        → texts_of (match_ordering o (k ∷ x ∷ xs) (x ∷ xs) (x ∷ insert_key (λ x y. slice_cmp nat_cmp x.now y.now) xs k)) ≡ match_ordering o (k.now ∷ x.now ∷ texts_of xs) (x.now ∷ texts_of xs) (x.now ∷ insert_key text_order (texts_of xs) k.now)
    by_order Less rest = refl
    by_order Equal rest = refl
    by_order Greater rest = ap (λ r. x.now ∷ r) rest

pub variable_seen : (n : Name) → expression_view (code.Variable n) ≡ variable (name_view n)
variable_seen n = ap expression_view (sym (rolls-Variable n)) ∙ fold-roll-Expression Expression view_step (Expression-F.Variable n)

trees_joined : (found : List Code) (x : Code) (more : List Expression) → trees_in (found ++ x ∷ []) ++ more ≡ trees_in found ++ expression_view x ∷ more
trees_joined [] x more = refl
trees_joined (e ∷ es) x more = ap (λ rest. expression_view e ∷ rest) (trees_joined es x more)

pub variable_pushed : (found more : List Code) (x : Code) (names : Names) (at : ℕ) (n : List ℕ) → more ≡ found ++ x ∷ [] → expression_view x ≡ variable_tree n → slice_get names at ≡ Some n
    → trees_in more ++ variable_trees (drop (at + 1) names) ≡ trees_in found ++ variable_trees (drop at names)
variable_pushed found more x names at n h is here =
    ap (λ es. trees_in es ++ variable_trees (drop (at + 1) names)) h
    ∙ trees_joined found x (variable_trees (drop (at + 1) names))
    ∙ ap (λ e. trees_in found ++ e ∷ variable_trees (drop (at + 1) names)) is
    ∙ sym (ap (λ ns. trees_in found ++ variable_trees ns) (drop_here names at n here))

of_variables : (names : Names) (ms : Names) (es : List Expression) → columns_of (names ++ ms) (variable_trees names ++ es) ≡ map variable_column names ++ columns_of ms es
of_variables [] ms es = refl
of_variables (n ∷ ns) ms es = ap (λ cs. variable_column n ∷ cs) (of_variables ns ms es)

same_value : (naming : Naming) (i : Item) → (column_of naming i).value ≡ i.value
same_value Variable i = refl
same_value Source i = refl

pub of_items : (naming : Naming) (items : List Item) → columns_of (column_names (map (column_of naming) items)) (values_in_items items) ≡ map (column_of naming) items
of_items naming [] = refl
of_items naming (i ∷ is) = λ j. record {
  name = (column_of naming i).name;
  value = sym (same_value naming i) j;
} ∷ of_items naming is j

stars : (scope : Names) (star : Option ℕ) → map variable_column (star_names scope star) ≡ star_columns scope star
stars scope None = refl
stars scope (Some place) = refl

pub whole : (naming : Naming) (scope : Names) (p : Projection)
    → columns_of (star_names scope p.star ++ column_names (map (column_of naming) p.items)) (variable_trees (star_names scope p.star) ++ values_in_items p.items) ≡ naming_columns naming scope p
whole naming scope p =
    of_variables (star_names scope p.star) (column_names (map (column_of naming) p.items)) (values_in_items p.items)
    ∙ (λ i. stars scope p.star i ++ of_items naming p.items i)

pub names_are : (names : Names) (es : List Expression) → length names ≡ length es → column_names (columns_of names es) ≡ names
names_are [] es h = refl
names_are (n ∷ ns) [] h = absurd (omega arith)
names_are (n ∷ ns) (e ∷ es) h = ap (λ ms. n ∷ ms) (names_are ns es (omega arith))

pub view_names : (c : ProjectionColumns) → column_names (columns_view c) ≡ c.names
view_names c =
    let items = c.items.now.items in
    let trees = trees_in c.starred.items in
    let values = values_in_items (map item_view items) in
    let long : length values ≡ length items = length-map (map item_view items) (λ (i : Item). i.value) ∙ length-map items item_view in
    names_are c.names (trees ++ values) (c.paired ∙ sym (length-append trees values ∙ (λ i. length-map c.starred.items expression_view i + long i)))

pub all_named : (c : ProjectionColumns) (found : List (Bor Code)) → expressions_view found ≡ trees_in c.starred.items ++ values_in_items (map item_view c.items.now.items) → length found ≡ length c.names
all_named c found all =
    let items = c.items.now.items in
    let trees = trees_in c.starred.items in
    let values = values_in_items (map item_view items) in
    let long : length values ≡ length items = length-map (map item_view items) (λ (i : Item). i.value) ∙ length-map items item_view in
    sym (length-map found (λ x. expression_view x.now))
    ∙ ap length all
    ∙ length-append trees values
    ∙ (λ i. length-map c.starred.items expression_view i + long i)
    ∙ sym c.paired

-- trees are put behind others, one after the other of a list that is lent
module _ {S : Type 0} (lent ss : List S) (same : lent ≡ ss) (left : List S → List Expression) (i : ℕ) (found : List (Bor Code)) (whole : List Expression) (so_far : expressions_view found ++ left (drop i ss) ≡ whole) where
  pub tree_pushed : (s : S) → i < length lent → s ≡ get_or lent i s → (more : List (Bor Code)) (e : Bor Code) → more ≡ found ++ e ∷ [] → left (s ∷ drop (i + 1) ss) ≡ expression_view e.now ∷ left (drop (i + 1) ss)
      → expressions_view more ++ left (drop (i + 1) ss) ≡ whole
  tree_pushed s within is more e pushed first =
      let rest = left (drop (i + 1) ss) in
      let next : drop i ss ≡ s ∷ drop (i + 1) ss = drop_more ss i s (subst (λ (ys : List S). i < length ys) same within) ∙ ap (λ y. y ∷ drop (i + 1) ss) (sym (is ∙ ap (λ (ys : List S). get_or ys i s) same)) in
      ap (λ es. es ++ rest) (ap expressions_view pushed ∙ map-append (λ x. expression_view x.now) found (e ∷ []))
      ∙ joined (expressions_view found) (expression_view e.now) rest
      ∙ ap (λ es. expressions_view found ++ es) (sym (ap left next ∙ first))
      ∙ so_far

  pub trees_over : left [] ≡ [] → length lent ≤ i → expressions_view found ≡ whole
  trees_over none past =
      sym (nothing_behind (expressions_view found))
      ∙ ap (λ es. expressions_view found ++ es) (sym (ap left (drop_all i ss (subst (λ (ys : List S). length ys ≤ i) same past)) ∙ none))
      ∙ so_far
