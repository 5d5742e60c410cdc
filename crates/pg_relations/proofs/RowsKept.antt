-- A clause that leaves nothing open keeps graphs, and gives rows that bind the names in scope behind it.
use Rattle.std.proofs.Common.{◌≡◌, Bool, true, false, cond, ◌||◌, List, [], ◌∷◌, map, ℕ, Option, Some, None, bytes_eq, is_some, Ok, refl, sym, subst, ◌∙◌}
use Rattle.std.specs.Bool.{⊤}
use Rattle.std.specs.List.{AllZip, AllByRecursion}
use Rattle.pg_soundness.proofs.ChangesRows.{sets_keep, removes_keep}
use Rattle.pg_soundness.proofs.MakingRows.{HasShape, binds_match}
use Rattle.pg_soundness.proofs.MatchLists.{all_taken, all_dropped}
use Rattle.pg_soundness.proofs.RowNames.{BindsOnly, binds_new}
use Rattle.pg_meaning.specs.Agreement.{AreRowsOf}
use Rattle.pg_meaning.specs.Answer.{each_answer}
use Rattle.pg_meaning.specs.AnswerLaws.{went_well, same_ok}
use Rattle.pg_meaning.specs.Graph.{Graph, IsGraph}
use Rattle.pg_meaning.specs.ListsLaws.{all_joined, all_mapped, all_trivial}
use Rattle.pg_meaning.specs.Meaning.{Step, UnwindRow, Groups, Distinct, Sorted, Passing, Projects, IsTrailOf, CreateRow}
use Rattle.pg_meaning.specs.Names.{is_among}
use Rattle.pg_meaning.specs.Patterns.{Assignment, add_path_names}
use Rattle.pg_meaning.specs.Projections.{Projected, column_value, projected, skipped, limited}
use Rattle.pg_meaning.specs.Rows.{Row, value_in, bind_new}
use Rattle.pg_meaning.specs.Scopes.{Column, column_names, with_columns, return_columns, scope_after}
use Rattle.pg_meaning.specs.Tree.{Expression, Name, PathPattern, Projection, Clause, match_paths, unwind, create, merge, set_items, remove_items, delete, with_rows, return_rows}
use Rattle.pg_meaning.specs.Turns.{Given, RowAfterRow, RowByRow}
use Rattle.pg_meaning.specs.Value.{Value}
use Rattle.pg_relations.proofs.ProjectedItems.{Bound, columns_named, value_named}
use Rattle.pg_relations.specs.Closed.{IsPlain, LeavesNothingOpen}

-- ---- UNWIND and CREATE

unwound_keep : (g : Given) (graph : Graph) (e : Expression) (name : Name) (rows results : List Row) → AreRowsOf g.scope rows → RowAfterRow (UnwindRow g graph e name) rows results → AreRowsOf (scope_after g.scope (unwind e name)) results
unwound_keep g graph e name [] results are s = subst (AreRowsOf (scope_after g.scope (unwind e name))) (sym s) tt
unwound_keep g graph e name (row ∷ rows) results are s =
    let own : AreRowsOf (scope_after g.scope (unwind e name)) (map (λ v. bind_new name.text v row) s.2.0) = all_mapped (λ v. bind_new name.text v row) (λ v. ⊤) (BindsOnly (scope_after g.scope (unwind e name))) (λ v h. binds_new g.scope row name.text v are.0) s.2.0 (all_trivial s.2.0) in
    subst (AreRowsOf (scope_after g.scope (unwind e name))) (sym s.4)
    (all_joined (BindsOnly (scope_after g.scope (unwind e name))) s.0 s.1 (subst (AreRowsOf (scope_after g.scope (unwind e name))) (sym s.2.2) own) (unwound_keep g graph e name rows s.1 are.1 s.3))

shapes : (paths : List PathPattern) (a : Assignment) → AllZip IsTrailOf paths a → AllZip HasShape paths a
shapes [] [] h = tt
shapes [] (t ∷ ts) h = absurd h
shapes (p ∷ ps) [] h = absurd h
shapes (p ∷ ps) (t ∷ ts) h = ((h.0.0, h.0.1), shapes ps ts h.1)

made_keep : (g : Given) (paths : List PathPattern) (rows : List Row) (graph after : Graph) (results : List Row) → AreRowsOf g.scope rows → RowByRow (CreateRow g paths) graph rows after results → AreRowsOf (add_path_names paths g.scope) results
made_keep g paths [] graph after results are s = subst (AreRowsOf (add_path_names paths g.scope)) (sym s.1) tt
made_keep g paths (row ∷ rows) graph after results are s =
    subst (AreRowsOf (add_path_names paths g.scope)) (sym s.5)
    (all_joined (BindsOnly (add_path_names paths g.scope)) s.1 s.2
    (subst (AreRowsOf (add_path_names paths g.scope)) (sym s.3.extended) (binds_match s.0 paths s.3.assignment g.scope row (shapes paths s.3.assignment s.3.shape) are.0, tt))
    (made_keep g paths rows s.0 after s.2 are.1 s.4))

made_graph : (g : Given) (paths : List PathPattern) (rows : List Row) (graph after : Graph) (results : List Row) → IsGraph graph → RowByRow (CreateRow g paths) graph rows after results → IsGraph after
made_graph g paths [] graph after results is s = subst IsGraph (sym s.0) is
made_graph g paths (row ∷ rows) graph after results is s = made_graph g paths rows s.0 after s.2 s.3.graph_again s.4

-- ---- WITH and RETURN

row_binds : (row : Row) → BindsOnly (map (λ (b : Bound). b.0) row) row
row_binds [] q = refl
row_binds (b ∷ row) q = by_first (bytes_eq q b.0) (value_in q row) (is_among (map (λ (b : Bound). b.0) row) q) (row_binds row q)
  where
    by_first : (c : Bool) (o : Option Value) (d : Bool) → is_some o ≡ d → is_some (cond c (Some b.1) o) ≡ (c || d)
    by_first true o d e = refl
    by_first false o d e = e

module _ (g : Given) (graph : Graph) (columns : List Column) where
  abbrev IsNamed : Projected → Type 0
  IsNamed r = map (λ (b : Bound). b.0) r.columns ≡ map (λ (c : Column). c.name) columns

  projected_named : (distinct : Bool) (row : Row) (r : Projected) → projected g.parameters graph distinct columns row ≡ Ok r → IsNamed r
  projected_named distinct row r e =
      let vs = went_well (each_answer (column_value g.parameters graph row) columns) (λ vs. Ok (record { columns = vs; earlier = cond distinct [] row })) r e in
      subst IsNamed (same_ok (record { columns = vs.0; earlier = cond distinct [] row }) r vs.2) (columns_named (column_value g.parameters graph row) (value_named g graph columns row) columns vs.0 vs.1)

  all_named : (distinct : Bool) (rows : List Row) (made : List Projected) → AllZip (λ row r. projected g.parameters graph distinct columns row ≡ Ok r) rows made → AllByRecursion IsNamed made
  all_named distinct [] [] z = tt
  all_named distinct [] (r ∷ rs) z = absurd z
  all_named distinct (row ∷ rows) [] z = absurd z
  all_named distinct (row ∷ rows) (r ∷ rs) z = (projected_named distinct row r z.0, all_named distinct rows rs z.1)

  all_skipped : (k : Option ℕ) (rs : List Projected) → AllByRecursion IsNamed rs → AllByRecursion IsNamed (skipped k rs)
  all_skipped None rs h = h
  all_skipped (Some n) rs h = all_dropped IsNamed n rs h

  all_limited : (k : Option ℕ) (rs : List Projected) → AllByRecursion IsNamed rs → AllByRecursion IsNamed (limited k rs)
  all_limited None rs h = h
  all_limited (Some n) rs h = all_taken IsNamed n rs h

  all_passing : (where_ : Option Expression) (all passing : List Projected) → Passing g graph where_ all passing → AllByRecursion IsNamed all → AllByRecursion IsNamed passing
  all_passing where_ [] passing s h = subst (AllByRecursion IsNamed) (sym s) tt
  all_passing where_ (p ∷ ps) passing s h = subst (AllByRecursion IsNamed) (sym s.4) (by_test s.0 (all_passing where_ ps s.1 s.3 h.1))
    where
      by_test : (b : Bool) → AllByRecursion IsNamed s.1 → AllByRecursion IsNamed (cond b (p ∷ s.1) s.1)
      by_test true rest = (h.0, rest)
      by_test false rest = rest

  plain_keep : (p : Projection) (where_ : Option Expression) (rows results : List Row) → IsPlain columns p → Projects g graph columns p where_ rows results → AreRowsOf (column_names columns) results
  plain_keep p where_ rows results plain h =
      subst (AreRowsOf (column_names columns)) (sym h.shown)
      (all_mapped (λ (r : Projected). r.columns) IsNamed (BindsOnly (column_names columns)) (λ r named. subst (λ ns. BindsOnly ns r.columns) named (row_binds r.columns)) h.passing
      (all_passing where_ (limited h.limit (skipped h.skip h.sorted)) h.passing h.condition
      (all_limited h.limit (skipped h.skip h.sorted) (all_skipped h.skip h.sorted (subst (AllByRecursion IsNamed) (sym (order ∙ distinct)) made)))))
    where
      order : h.sorted ≡ h.kept
      order = subst (λ o. Sorted g graph columns o h.kept h.sorted) plain.0 h.order

      distinct : h.kept ≡ h.made
      distinct = subst (λ b. Distinct b h.made h.kept) plain.1 h.distinct

      made : AllByRecursion IsNamed h.made
      made =
          all_named p.distinct rows h.made
          (subst (λ b. elim b as (λ b. Type 0) [ true ↦ Groups g graph columns rows h.made | false ↦ AllZip (λ row r. projected g.parameters graph p.distinct columns row ≡ Ok r) rows h.made ]) plain.2 h.items)

-- ---- all of them

pub rows_keep : (c : Clause) (g : Given) (graph after : Graph) (rows results : List Row) → LeavesNothingOpen g.scope c → AreRowsOf g.scope rows → Step g c graph rows after results → AreRowsOf (scope_after g.scope c) results
rows_keep (match_paths is_optional paths where_) g graph after rows results closed are s = absurd closed
rows_keep (unwind e name) g graph after rows results closed are s = unwound_keep g graph e name rows results are s.1
rows_keep (create paths) g graph after rows results closed are s = made_keep g paths rows graph after results are s
rows_keep (merge p parts) g graph after rows results closed are s = absurd closed
rows_keep (set_items items) g graph after rows results closed are s = subst (AreRowsOf g.scope) (sym s.1) are
rows_keep (remove_items items) g graph after rows results closed are s = subst (AreRowsOf g.scope) (sym s.1) are
rows_keep (delete is_detach es) g graph after rows results closed are s = subst (AreRowsOf g.scope) (sym s.1) are
rows_keep (with_rows p where_) g graph after rows results closed are s = plain_keep g graph (with_columns g.scope p) p where_ rows results closed s.1
rows_keep (return_rows p) g graph after rows results closed are s = plain_keep g graph (return_columns g.scope p) p None rows results closed s.1

pub graph_keeps : (c : Clause) (g : Given) (graph after : Graph) (rows results : List Row) → LeavesNothingOpen g.scope c → IsGraph graph → Step g c graph rows after results → IsGraph after
graph_keeps (match_paths is_optional paths where_) g graph after rows results closed is s = absurd closed
graph_keeps (unwind e name) g graph after rows results closed is s = subst IsGraph (sym s.0) is
graph_keeps (create paths) g graph after rows results closed is s = made_graph g paths rows graph after results is s
graph_keeps (merge p parts) g graph after rows results closed is s = absurd closed
graph_keeps (set_items items) g graph after rows results closed is s = sets_keep g items graph rows after is s.0
graph_keeps (remove_items items) g graph after rows results closed is s = removes_keep items graph rows after is s.0
graph_keeps (delete is_detach es) g graph after rows results closed is s = (s.0).graph_again
graph_keeps (with_rows p where_) g graph after rows results closed is s = subst IsGraph (sym s.0) is
graph_keeps (return_rows p) g graph after rows results closed is s = subst IsGraph (sym s.0) is
