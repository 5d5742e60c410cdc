-- Each clause, and so each query, goes well or ends in a fault of a run.
use Rattle.std.proofs.Common.{◌≡◌, true, false, inl, inr, ◌⊎◌, List, [], ◌∷◌, ◌++◌, map, flat_map, Option, None, refl, subst}
use Rattle.std.specs.List.{AllByRecursion, list_any}
use Rattle.pg_meaning.specs.Agreement.{AreGiven, AreRowsOf}
use Rattle.pg_meaning.specs.AgreementLaws.{named_in, given_split}
use Rattle.pg_meaning.specs.Grammar.{Mark, key, flag, marks, optional_marks, direction_marks, keyed, items_marks, sort_marks, order_marks, projection_marks, IsWellFormed, Each, IsProjection}
use Rattle.pg_meaning.specs.ListsLaws.{all_joined}
use Rattle.pg_meaning.specs.Meters.{Setting, State}
use Rattle.pg_meaning.specs.Names.{Names}
use Rattle.pg_meaning.specs.Projections.{project_clause}
use Rattle.pg_meaning.specs.Scopes.{Column, column_names, star_columns, with_column, return_column, projection_columns}
use Rattle.pg_meaning.specs.StaticFaults.{PlacedFault, faults_of, faults_if_any, visible_of, sort_faults, item_faults, star_faults, projection_faults}
use Rattle.pg_meaning.specs.Tree.{Expression, Item, SortItem, Projection, Clause, match_paths, unwind, create, merge, set_items, remove_items, delete, with_rows, return_rows}
use Rattle.pg_meaning.specs.Trees.{same_expression}
use Rattle.pg_meaning.specs.Value.{Entries}
use Rattle.pg_meaning.specs.declared.lexemes.Keyword.TheVariants as k
use Rattle.pg_soundness.proofs.FaultsCreates.{create_ends, merge_ends}
use Rattle.pg_soundness.proofs.FaultsItems.{ColumnReady, items_given, star_ready, items_ready}
use Rattle.pg_soundness.proofs.FaultsMatches.{match_ends}
use Rattle.pg_soundness.proofs.FaultsProjections.{project_ends}
use Rattle.pg_soundness.proofs.FaultsReads.{state_ends, commas_given, none_each, unwind_ends, set_ends, remove_ends, delete_ends}
use Rattle.pg_soundness.proofs.FaultsSteps.{Ends, Ready, ready_if_any, clauses_end_queries}
use Rattle.pg_soundness.proofs.MatchScopes.{first_none, second_none}
use Rattle.pg_soundness.proofs.MatchStates.{by_bool}
use Rattle.pg_soundness.specs.Faults.{ClauseEndsWell, FaultsOfQueries}

-- ---- sorts

module _ (parameters : Entries) (visible : Names) (columns : List Column) where
  abbrev Given : List Mark → Type 0
  Given ms = AreGiven (named_in ms) parameters

  order_given : (os : List SortItem) → Given (order_marks os) → AllByRecursion Given (map sort_marks os)
  order_given [] h = tt
  order_given (o ∷ os) h = commas_given parameters (map sort_marks (o ∷ os)) h

  abbrev IsSorted : SortItem → Type 0
  IsSorted x = (list_any (λ c. same_expression c.value x.key) columns ≡ true) ⊎ Ready visible parameters x.key

  sort_ready : (x : SortItem) → IsWellFormed x.key → sort_faults columns visible x ≡ [] → Given (sort_marks x) → IsSorted x
  sort_ready x w e h =
      by_bool (list_any (λ c. same_expression c.value x.key) columns) (λ is. inl is)
      (λ other. inr (w, subst (λ b. elim b as (λ b. List PlacedFault) [ true ↦ [] | false ↦ faults_of visible x.key ] ≡ []) other e, (given_split parameters (marks x.key) (optional_marks direction_marks x.direction) h).0))

  sorts_ready : (os : List SortItem) → AllByRecursion (λ x. IsWellFormed x.key) os → AllByRecursion (λ x. sort_faults columns visible x ≡ []) os → AllByRecursion Given (map sort_marks os) → AllByRecursion IsSorted os
  sorts_ready [] w e h = tt
  sorts_ready (x ∷ os) w e h = (sort_ready x w.0 e.0 h.0, sorts_ready os w.1 e.1 h.1)

-- ---- WITH and RETURN

projection_ends : (column : Item → Column) → ((x : Item) → (column x).value ≡ x.value) → (p : Projection) (where_ : Option Expression) (s : Setting) (state : State) → IsProjection p → Each IsWellFormed where_ → projection_faults column s.scope p where_ ≡ []
    → AreGiven (named_in (projection_marks p)) s.parameters → AreGiven (named_in (optional_marks (keyed k.Where) where_)) s.parameters → AreRowsOf s.scope state.rows
    → Ends (λ next. AreRowsOf (column_names (projection_columns column s.scope p)) next.rows) (project_clause s (projection_columns column s.scope p) p where_ state)
projection_ends column same p where_ s state are where_is faults given where_given rows =
    project_ends s columns p where_ state
    (all_joined (ColumnReady s.scope s.parameters) (star_columns s.scope p.star) (map column p.items) (star_ready s.scope s.parameters p.star)
    (items_ready s.scope s.parameters column same before p.items are.1 (first_none of_items of_sorts in_front) (items_given s.scope s.parameters p.star p.items (given_split s.parameters (flag p.distinct (key k.Distinct)) (items_marks p.star p.items) ms_items).1)))
    (sorts_ready s.parameters seen columns p.order are.2 (none_each (sort_faults columns seen) p.order (second_none of_items of_sorts in_front)) (order_given s.parameters seen columns p.order ms_order))
    (ready_if_any [] s.parameters k.Skip p.skip are.3 (second_none (of_items ++ of_sorts) (faults_if_any [] p.skip) with_skip) ms_skip)
    (ready_if_any [] s.parameters k.Limit p.limit are.4 (second_none ((of_items ++ of_sorts) ++ faults_if_any [] p.skip) (faults_if_any [] p.limit) with_limit) ms_limit)
    (ready_if_any seen s.parameters k.Where where_ where_is (second_none (((of_items ++ of_sorts) ++ faults_if_any [] p.skip) ++ faults_if_any [] p.limit) (faults_if_any seen where_) faults) where_given)
    rows
  where
    columns : List Column
    columns = projection_columns column s.scope p

    seen : Names
    seen = visible_of s.scope columns p.distinct

    before : Names
    before = column_names (star_columns s.scope p.star)

    of_items : List PlacedFault
    of_items = item_faults column s.scope before p.items

    of_sorts : List PlacedFault
    of_sorts = flat_map (sort_faults columns seen) p.order

    with_limit : ((of_items ++ of_sorts) ++ faults_if_any [] p.skip) ++ faults_if_any [] p.limit ≡ []
    with_limit = first_none (((of_items ++ of_sorts) ++ faults_if_any [] p.skip) ++ faults_if_any [] p.limit) (faults_if_any seen where_) faults

    with_skip : (of_items ++ of_sorts) ++ faults_if_any [] p.skip ≡ []
    with_skip = first_none ((of_items ++ of_sorts) ++ faults_if_any [] p.skip) (faults_if_any [] p.limit) with_limit

    in_front : of_items ++ of_sorts ≡ []
    in_front = first_none (of_items ++ of_sorts) (faults_if_any [] p.skip) with_skip

    head_marks : List Mark
    head_marks = flag p.distinct (key k.Distinct) ++ items_marks p.star p.items

    split_limit : AreGiven (named_in ((head_marks ++ order_marks p.order) ++ optional_marks (keyed k.Skip) p.skip)) s.parameters × AreGiven (named_in (optional_marks (keyed k.Limit) p.limit)) s.parameters
    split_limit = given_split s.parameters ((head_marks ++ order_marks p.order) ++ optional_marks (keyed k.Skip) p.skip) (optional_marks (keyed k.Limit) p.limit) given

    ms_limit : AreGiven (named_in (optional_marks (keyed k.Limit) p.limit)) s.parameters
    ms_limit = split_limit.1

    split_skip : AreGiven (named_in (head_marks ++ order_marks p.order)) s.parameters × AreGiven (named_in (optional_marks (keyed k.Skip) p.skip)) s.parameters
    split_skip = given_split s.parameters (head_marks ++ order_marks p.order) (optional_marks (keyed k.Skip) p.skip) split_limit.0

    ms_skip : AreGiven (named_in (optional_marks (keyed k.Skip) p.skip)) s.parameters
    ms_skip = split_skip.1

    split_order : AreGiven (named_in head_marks) s.parameters × AreGiven (named_in (order_marks p.order)) s.parameters
    split_order = given_split s.parameters head_marks (order_marks p.order) split_skip.0

    ms_order : AreGiven (named_in (order_marks p.order)) s.parameters
    ms_order = split_order.1

    ms_items : AreGiven (named_in head_marks) s.parameters
    ms_items = split_order.0

with_ends : (p : Projection) (where_ : Option Expression) → ClauseEndsWell (with_rows p where_)
with_ends p where_ s state are faults given planned rows =
    let parts = given_split s.parameters (projection_marks p) (optional_marks (keyed k.Where) where_) given in
    state_ends (column_names (projection_columns with_column s.scope p)) (project_clause s (projection_columns with_column s.scope p) p where_ state) (projection_ends with_column (λ x. refl) p where_ s state are.0 are.2 faults parts.0 parts.1 rows)

return_ends : (p : Projection) → ClauseEndsWell (return_rows p)
return_ends p s state are faults given planned rows =
    state_ends (column_names (projection_columns return_column s.scope p)) (project_clause s (projection_columns return_column s.scope p) p None state) (projection_ends return_column (λ x. refl) p None s state are tt (second_none (star_faults s.scope p.star) (projection_faults return_column s.scope p None) faults) given tt rows)

-- ---- all of them

each_ends : (c : Clause) → ClauseEndsWell c
each_ends (match_paths is_optional paths where_) = match_ends is_optional paths where_
each_ends (unwind e n) = unwind_ends e n
each_ends (create paths) = create_ends paths
each_ends (merge p parts) = merge_ends p parts
each_ends (set_items xs) = set_ends xs
each_ends (remove_items xs) = remove_ends xs
each_ends (delete is_detach es) = delete_ends is_detach es
each_ends (with_rows p where_) = with_ends p where_
each_ends (return_rows p) = return_ends p

all_end : (cs : List Clause) → AllByRecursion ClauseEndsWell cs
all_end [] = tt
all_end (c ∷ cs) = (each_ends c, all_end cs)

pub faults_of_queries : FaultsOfQueries
faults_of_queries q = clauses_end_queries q (all_end q.clauses)
