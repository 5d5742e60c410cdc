-- WITH and RETURN: items, DISTINCT, ORDER BY, SKIP, LIMIT and WHERE, one after the other.
use Rattle.std.proofs.Common.{◌≡◌, ℕ, Bool, true, false, ◌⊎◌, inl, inr, List, map, length, Option, None, Result, Ok, Err, refl, sym, subst}
use Rattle.std.specs.List.{AllByRecursion, AllZip, list_any}
use Rattle.pg_meaning.specs.Turns.{AtSomeRow}
use Rattle.pg_meaning.specs.Agreement.{given_in, AnswerAgrees}
use Rattle.pg_meaning.specs.Answer.{◌>>=◌, each_answer}
use Rattle.pg_meaning.specs.AnswerLaws.{by_answer, answers_zip, answers_fault}
use Rattle.pg_meaning.specs.Conditions.{condition}
use Rattle.pg_meaning.specs.Graph.{Graph, IsGraph}
use Rattle.pg_meaning.specs.Lists.{IsIn}
use Rattle.pg_meaning.specs.Meaning.{Groups, Items, ItemFaults, AggregateFaults, SortFaults, PassingFaults, keys_at}
use Rattle.pg_meaning.specs.Meters.{Setting, State, spend}
use Rattle.pg_soundness.proofs.ProjectedParts.{spend_fault, Binds, all_bind, row_fault, distinct_agrees, all_distinct, passing_agrees, passing_fault, all_cut, all_passing, rows_bind, ProjectionAgrees}
use Rattle.pg_meaning.specs.Projections.{Projected, visible, projected, grouped, item_rows, count_given, skipped, limited, distinct_rows, ordered_rows, passing_rows, project_clause}
use Rattle.pg_meaning.specs.Rows.{Row}
use Rattle.pg_meaning.specs.Scopes.{Column, is_aggregate, with_columns, return_columns}
use Rattle.pg_meaning.specs.Tree.{Expression, Projection, with_rows, return_rows}
use Rattle.pg_meaning.specs.declared.fault.Fault.{Fault}
use Rattle.pg_soundness.specs.Projecting.{WithAgrees, ReturnAgrees}
use Rattle.pg_soundness.proofs.GroupedRows.{groups_agree, groups_fault}
use Rattle.pg_soundness.proofs.SortedRows.{sort_agrees, all_ordered, sort_fault}

-- ---- items

module _ (s : Setting) (graph : Graph) (distinct : Bool) (columns : List Column) (rows : List Row) where
  abbrev items_by : (has_aggregate : Bool) → Result (List Projected) Fault
  items_by has_aggregate = elim has_aggregate [ true ↦ grouped s graph columns rows | false ↦ each_answer (projected s.parameters graph distinct columns) rows ]

  abbrev ItemsBy : List Projected → (has_aggregate : Bool) → Type 0
  ItemsBy ps has_aggregate = elim has_aggregate [ true ↦ Groups (given_in s) graph columns rows ps | false ↦ AllZip (λ row r. projected s.parameters graph distinct columns row ≡ Ok r) rows ps ]

  items_agree : (ps : List Projected) (b : Bool) → items_by b ≡ Ok ps → ItemsBy ps b × AllByRecursion (Binds columns) ps
  items_agree ps true e = groups_agree s graph columns rows ps e
  items_agree ps false e = let zipped = answers_zip (projected s.parameters graph distinct columns) rows ps e in (zipped, all_bind s graph distinct columns rows ps zipped)

  items_fault : (f : Fault) (b : Bool) → list_any is_aggregate columns ≡ b → items_by b ≡ Err f → AtSomeRow (ItemFaults (given_in s) graph columns) rows f ⊎ AggregateFaults (given_in s) graph columns rows f
  items_fault f true some e = groups_fault s graph columns rows f e
  items_fault f false none e = let found = answers_fault (projected s.parameters graph distinct columns) rows f e in inl (found.0, found.1, row_fault s graph distinct columns found.0 f none found.2)

-- ---- the clause

module _ (s : Setting) (columns : List Column) (p : Projection) (where_ : Option Expression) (state : State) where
  abbrev kept_state : ℕ → List Projected → Result State Fault
  kept_state steps kept = Ok (record { graph = state.graph; rows = map (λ (r : Projected). r.columns) kept; steps = steps })

  abbrev cut_state : ℕ → Option ℕ → Option ℕ → List Projected → Result State Fault
  cut_state steps skip limit sorted = passing_rows s state.graph where_ (limited limit (skipped skip sorted)) >>= kept_state steps

  abbrev sorted_state : ℕ → Option ℕ → Option ℕ → List Projected → Result State Fault
  sorted_state steps skip limit made = ordered_rows s state.graph columns p.order (distinct_rows p.distinct made) >>= cut_state steps skip limit

  abbrev limited_state : ℕ → Option ℕ → Option ℕ → Result State Fault
  limited_state steps skip limit = item_rows s state.graph p.distinct columns state.rows >>= sorted_state steps skip limit

  abbrev skipped_state : ℕ → Option ℕ → Result State Fault
  skipped_state steps skip = count_given s.parameters state.graph p.limit >>= limited_state steps skip

  abbrev charged_state : ℕ → Result State Fault
  charged_state steps = count_given s.parameters state.graph p.skip >>= skipped_state steps

  abbrev Agrees : Result State Fault → Type 0
  Agrees = ProjectionAgrees s columns p where_ state

  -- what the parts before the condition gave
  record SoFar (skip limit : Option ℕ) (made sorted : List Projected) : Type 0 where
    skip_is : count_given s.parameters state.graph p.skip ≡ Ok skip
    limit_is : count_given s.parameters state.graph p.limit ≡ Ok limit
    made_is : item_rows s state.graph p.distinct columns state.rows ≡ Ok made
    sorted_is : ordered_rows s state.graph columns p.order (distinct_rows p.distinct made) ≡ Ok sorted

  made_agree : (made : List Projected) → item_rows s state.graph p.distinct columns state.rows ≡ Ok made → Items (given_in s) state.graph p.distinct columns state.rows made × AllByRecursion (Binds columns) made
  made_agree made e = items_agree s state.graph p.distinct columns state.rows made (list_any is_aggregate columns) e

  went : (steps : ℕ) (skip limit : Option ℕ) (made sorted kept : List Projected) → SoFar skip limit made sorted → passing_rows s state.graph where_ (limited limit (skipped skip sorted)) ≡ Ok kept → Agrees (kept_state steps kept)
  went steps skip limit made sorted kept before e =
      let items = made_agree made before.made_is in
      let passes = passing_agrees s state.graph where_ (limited limit (skipped skip sorted)) kept e in
      let bound = all_ordered s state.graph columns (Binds columns) p.order (distinct_rows p.distinct made) sorted before.sorted_is (all_distinct (Binds columns) p.distinct made items.1) in (
        refl,
        record {
          skip = skip;
          skip_given = before.skip_is;
          limit = limit;
          limit_given = before.limit_is;
          made = made;
          items = items.0;
          kept = distinct_rows p.distinct made;
          distinct = distinct_agrees p.distinct made;
          sorted = sorted;
          order = sort_agrees s state.graph columns p.order (distinct_rows p.distinct made) sorted before.sorted_is;
          passing = kept;
          condition = passes;
          shown = refl;
        },
        rows_bind columns kept (all_passing (Binds columns) s state.graph where_ (limited limit (skipped skip sorted)) kept passes (all_cut (Binds columns) skip limit sorted bound)),
      )

  where_fault : (skip limit : Option ℕ) (made sorted : List Projected) (f : Fault) → SoFar skip limit made sorted
      → (r : Projected) × IsIn r (limited limit (skipped skip sorted)) × (condition where_ (visible r) s.parameters state.graph ≡ Err f)
      → PassingFaults (given_in s) state.graph columns p where_ state.rows f
  where_fault skip limit made sorted f before h = (
    skip,
    limit,
    made,
    distinct_rows p.distinct made,
    sorted,
    h.0,
    before.skip_is,
    before.limit_is,
    (made_agree made before.made_is).0,
    distinct_agrees p.distinct made,
    sort_agrees s state.graph columns p.order (distinct_rows p.distinct made) sorted before.sorted_is,
    h.1,
    h.2,
  )

  order_fault : (made : List Projected) (f : Fault) → item_rows s state.graph p.distinct columns state.rows ≡ Ok made → (r : Projected) × IsIn r (distinct_rows p.distinct made) × (keys_at (given_in s) state.graph columns p.order r ≡ Err f)
      → SortFaults (given_in s) state.graph columns p state.rows f
  order_fault made f e h = (made, distinct_rows p.distinct made, h.0, (made_agree made e).0, distinct_agrees p.distinct made, h.1, h.2)

  made_fault : (f : Fault) → AtSomeRow (ItemFaults (given_in s) state.graph columns) state.rows f ⊎ AggregateFaults (given_in s) state.graph columns state.rows f → Agrees (Err f)
  made_fault f (inl h) = inr (inr (inr (inl h)))
  made_fault f (inr h) = inr (inr (inr (inr (inl h))))

  projection_agrees : Agrees (project_clause s columns p where_ state)
  projection_agrees =
      by_answer Agrees (spend s state.steps (length state.rows)) charged_state
      (λ steps e0. by_answer Agrees (count_given s.parameters state.graph p.skip) (skipped_state steps)
      (λ skip e1. by_answer Agrees (count_given s.parameters state.graph p.limit) (limited_state steps skip)
      (λ limit e2. by_answer Agrees (item_rows s state.graph p.distinct columns state.rows) (sorted_state steps skip limit)
      (λ made e3. by_answer Agrees (ordered_rows s state.graph columns p.order (distinct_rows p.distinct made)) (cut_state steps skip limit)
      (λ sorted e4. by_answer Agrees (passing_rows s state.graph where_ (limited limit (skipped skip sorted))) (kept_state steps)
      (λ kept e5. went steps skip limit made sorted kept (record { skip_is = e1; limit_is = e2; made_is = e3; sorted_is = e4 }) e5)
      (λ f e5. inr (inr (inr (inr (inr (inr (where_fault skip limit made sorted f (record { skip_is = e1; limit_is = e2; made_is = e3; sorted_is = e4 }) (passing_fault s state.graph where_ (limited limit (skipped skip sorted)) f e5)))))))))
      (λ f e4. inr (inr (inr (inr (inr (inl (order_fault made f e3 (sort_fault s state.graph columns p.order (distinct_rows p.distinct made) f e4)))))))))
      (λ f e3. made_fault f (items_fault s state.graph p.distinct columns state.rows f (list_any is_aggregate columns) refl e3)))
      (λ f e2. inr (inr (inl e2))))
      (λ f e1. inr (inl e1)))
      (λ f e0. inl (spend_fault s state.steps (length state.rows) f e0))

-- ---- the laws

pub with_agrees : WithAgrees
with_agrees p where_ s state faults given_here planned g bound = as_answer (project_clause s (with_columns s.scope p) p where_ state) (projection_agrees s (with_columns s.scope p) p where_ state)
  where
    as_answer : (r : Result State Fault) → ProjectionAgrees s (with_columns s.scope p) p where_ state r → AnswerAgrees s (with_rows p where_) state r
    as_answer (Ok next) h = ((h.0, h.1), subst IsGraph (sym h.0) g, h.2)
    as_answer (Err f) h = h

pub return_agrees : ReturnAgrees
return_agrees p s state faults given_here planned g bound = as_answer (project_clause s (return_columns s.scope p) p None state) (projection_agrees s (return_columns s.scope p) p None state)
  where
    as_answer : (r : Result State Fault) → ProjectionAgrees s (return_columns s.scope p) p None state r → AnswerAgrees s (return_rows p) state r
    as_answer (Ok next) h = ((h.0, h.1), subst IsGraph (sym h.0) g, h.2)
    as_answer (Err f) h = h
