-- `*` alone over names that rise gives the rows as they are.
use Rattle.std.proofs.Common.{◌≡◌, ◌≢◌, ℕ, suc, ◌+◌, cond, true, false, List, [], ◌∷◌, ◌++◌, map, length, Result, Ok, Err, IfOk, IfErr, Option, Some, None, Less, refl, sym, ap, subst, ◌∙◌, arith}
use Rattle.std.proofs.lemmas.Bool.Decides.{nat_tests}
use Rattle.std.proofs.lemmas.List.{length-append, length-map}
use Rattle.std.proofs.lemmas.Map.Text.{is_eq-slice_cmp}
use Rattle.std.proofs.lemmas.Slice.Eq.{bytes_eq-Decides}
use Rattle.std.specs.List.{AllByRecursion, position_from}
use Rattle.std.specs.List.Sorted.{IsStrictlySortedBy}
use Rattle.std.specs.Ordering.{is_eq, ordering_reverse}
use Rattle.std.specs.Prelude.{◌==◌, ◌&&◌, bytes_eq, is_none, is_some}
use Rattle.pg_meaning.specs.Graph.{Graph}
use Rattle.pg_meaning.specs.Meters.{Setting}
use Rattle.pg_meaning.specs.Names.{Names, in_byte_order}
use Rattle.pg_meaning.specs.Order.{text_order}
use Rattle.pg_meaning.specs.Scopes.{column_names, star_columns, variable_column}
use Rattle.pg_meaning.specs.Tree.{Expression, Projection}
use Rattle.pg_meaning.specs.Value.{Value, Entries}
use Rattle.pg_meaning.specs.declared.fault.Fault.{Fault}
use Rattle.pg_meaning.specs.declared.fault.Fault.TheVariants.{OutOfMemory}
use Rattle.pg_rows.proofs.NamedRows.{first_place}
use Rattle.pg_rows.specs.Named.{rows_named}
use Rattle.pg_rows.specs.Tables.{table}
use Rattle.pg_rows.specs.declared.table.Rows.{Rows}
use Rattle.pg_scope.specs.Columns.{column_of}
use Rattle.pg_scope.specs.declared.columns.Naming.{Naming}
use Rattle.pg_value_core.specs.Gives.{Gives}
use Rattle.pg_project.proofs.ByteOrder.{below, in_order, total}
use Rattle.pg_project.proofs.ColumnViews.{names_are}
use Rattle.pg_project.proofs.InTurn.{joined, nothing_behind}
use Rattle.pg_project.proofs.PassedRows.{passed_gives}
use Rattle.pg_project.specs.Columns.{naming_columns, star_names, variable_tree, variable_trees}
use Rattle.pg_project.specs.Given.{Cut, cut_given, cut_of, passing_given, tail_given}
use Rattle.pg_project.specs.Items.{columns_of}
use Rattle.pg_project.specs.LoneStar.{IsLoneStar}
use Rattle.pg_project.specs.Parts.{rows_projected}
use Rattle.pg_project.specs.PassThrough.{are_variables, is_place, is_variable_at}

-- ---- their variables are the columns in their order

own_text : (t : List ℕ) → bytes_eq t t ≡ true
own_text t = (bytes_eq-Decides t t).1 refl

other_text : (t u : List ℕ) → text_order u t ≡ Less → bytes_eq t u ≡ false
other_text t u e = sym (is_eq-slice_cmp t u) ∙ ap is_eq (total.antisymm t u ∙ ap ordering_reverse e)

place_behind : (t : List ℕ) (done more : Names) (from : ℕ) → AllByRecursion (λ u. text_order u t ≡ Less) done → position_from (bytes_eq t) from (done ++ t ∷ more) ≡ Some (from + length done)
place_behind t [] more from h =
    let end : from ≡ from + 0 = omega arith in
    ap (λ b. cond b (Some from) (position_from (bytes_eq t) (from + 1) more)) (own_text t) ∙ ap Some end
place_behind t (u ∷ us) more from h =
    let end : from + 1 + length us ≡ from + length (u ∷ us) = omega arith in
    ap (λ b. cond b (Some from) (position_from (bytes_eq t) (from + 1) (us ++ t ∷ more))) (other_text t u h.0)
    ∙ place_behind t us more (from + 1) h.1
    ∙ ap Some end

same_number : (n : ℕ) → (0 + n == n) ≡ true
same_number n = grind (arith, nat_tests)

at_its_place : (t : List ℕ) (done more : Names) → IsStrictlySortedBy text_order (done ++ t ∷ more) → is_variable_at (done ++ t ∷ more) (length done) (variable_tree t) ≡ true
at_its_place t done more h =
    ap (is_place (length done)) (first_place t (done ++ t ∷ more) ∙ place_behind t done more 0 (below done t more h)) ∙ same_number (length done)

variables_behind : (names done more : Names) → done ++ more ≡ names → IsStrictlySortedBy text_order names → are_variables names (length done) (variable_trees more) ≡ true
variables_behind names done [] e h = refl
variables_behind names done (t ∷ more) e h =
    let here : is_variable_at names (length done) (variable_tree t) ≡ true =
    subst (λ ns. is_variable_at ns (length done) (variable_tree t) ≡ true) e (at_its_place t done more (subst (IsStrictlySortedBy text_order) (sym e) h)) in
    let long : length (done ++ t ∷ []) ≡ length done + 1 = length-append done (t ∷ []) in
    let next : length (done ++ t ∷ []) ≡ suc (length done) = omega (arith, long) in
    let later : are_variables names (suc (length done)) (variable_trees more) ≡ true =
    subst (λ n. are_variables names n (variable_trees more) ≡ true) next (variables_behind names (done ++ t ∷ []) more (joined done t more ∙ e) h) in
    λ i. here i && later i

pub all_variables : (names : Names) → IsStrictlySortedBy text_order names → are_variables names 0 (variable_trees names) ≡ true
all_variables names h = variables_behind names [] names refl h

-- ---- the columns

stars : (scope : Names) (star : Option ℕ) → is_some star ≡ true → star_columns scope star ≡ map variable_column (in_byte_order scope)
stars scope None h = cc h
stars scope (Some place) h = refl

of_names : (names : Names) → columns_of names (variable_trees names) ≡ map variable_column names
of_names [] = refl
of_names (n ∷ ns) = ap (λ cs. variable_column n ∷ cs) (of_names ns)

pub star_columns_are : (naming : Naming) (names : Names) (p : Projection) → IsLoneStar p → IsStrictlySortedBy text_order names → naming_columns naming names p ≡ columns_of names (variable_trees names)
star_columns_are naming names p star h =
    (λ i. stars names p.star star.star i ++ map (column_of naming) (star.items i))
    ∙ nothing_behind (map variable_column (in_byte_order names))
    ∙ ap (map variable_column) (in_order names h)
    ∙ sym (of_names names)

pub star_names_are : (naming : Naming) (names : Names) (p : Projection) → IsLoneStar p → IsStrictlySortedBy text_order names → column_names (naming_columns naming names p) ≡ names
star_names_are naming names p star h =
    ap column_names (star_columns_are naming names p star h) ∙ names_are names (variable_trees names) (sym (length-map names variable_tree))

pub star_in_order : (scope : Names) (star : Option ℕ) → is_none star ≡ false → IsStrictlySortedBy text_order scope → scope ≡ star_names scope star
star_in_order scope None none h = cc none
star_in_order scope (Some place) none h = sym (in_order scope h)

-- ---- the rows

module _ (s : Setting) (graph : Graph) (parameters : Entries) (given : s.parameters ≡ parameters) (naming : Naming) (p : Projection) (where_ : Option Expression) (names : Names) (star : IsLoneStar p) (rising : IsStrictlySortedBy text_order names)
    (c : Cut) (cut : cut_given parameters graph p.skip p.limit ≡ Ok c) (r : Rows) (fits : r.width ≡ length names) where
  abbrev passing : Result (List (List Value)) Fault
  passing = passing_given parameters graph names where_ (length names) (cut_of c (table r))

  tail_is : tail_given parameters graph names (variable_trees names) p.distinct p.order c where_ (length names) (table r) ≡ passing
  tail_is = λ i. tail_given parameters graph names (variable_trees names) (star.each i) (star.order i) c where_ (length names) (table r)

  long : length (variable_trees names) ≡ length names
  long = length-map names variable_tree

  given_by : (result : Result Rows Fault) → IfOk result (λ found. tail_given parameters graph names (variable_trees names) p.distinct p.order c where_ (length names) (table r) ≡ Ok (table found))
      → IfErr result (λ e. e ≢ OutOfMemory → tail_given parameters graph names (variable_trees names) p.distinct p.order c where_ (length names) (table r) ≡ Err e)
      → Gives result (rows_projected s graph (naming_columns naming names p) p where_ (rows_named names (table r))) (λ found. rows_named names (table found))
  given_by result ok err =
      passed_gives s graph parameters given (naming_columns naming names p) p where_ names names (variable_trees names) (star_columns_are naming names p star rising) c cut r (length names) fits (sym long) long refl
      (all_variables names rising) (λ h. refl) result ok err

  pub star_gives : (result : Result Rows Fault) → IfOk result (λ found. passing ≡ Ok (table found)) → IfErr result (λ e. e ≢ OutOfMemory → passing ≡ Err e)
      → Gives result (rows_projected s graph (naming_columns naming names p) p where_ (rows_named names (table r))) (λ found. rows_named names (table found))
  star_gives (Ok found) ok err = given_by (Ok found) (tail_is ∙ ok) tt
  star_gives (Err e) ok err = given_by (Err e) tt (λ other. tail_is ∙ err other)
