-- MERGE agrees with its meaning.
use Rattle.std.proofs.Common.{◌≡◌, ◌≢◌, ℕ, suc, Bool, true, false, ◌⊎◌, inl, inr, List, [], ◌∷◌, ◌++◌, map, length, Result, Ok, Err, refl, sym, ap, subst, ◌∙◌, append_assoc, append-nil}
use Rattle.std.specs.List.{AllByRecursion, AllZip}
use Rattle.pg_soundness.proofs.MatchFound.{walks_list_fits}
use Rattle.pg_soundness.proofs.MakingClauses.{BoundTested, bound_tested, MakeAgrees, made}
use Rattle.pg_soundness.proofs.MakingRows.{as_many_nodes, HasShape, binds_match}
use Rattle.pg_soundness.proofs.ChangesComputed.{set_is_computed, set_fault_is_computed}
use Rattle.pg_soundness.proofs.MergingItems.{Keeps, rows_keep, ItemsRun, items_run}
use Rattle.pg_soundness.proofs.MergingProperties.{NullTested, WantedAgrees, wanted_agrees}
use Rattle.pg_soundness.specs.Making.{MergeAgrees}
use Rattle.pg_meaning.specs.Turns.{RowByRow, AtSomeTurn}
use Rattle.pg_meaning.specs.Agreement.{given_in, AreRowsOf, AnswerAgrees}
use Rattle.pg_meaning.specs.Answer.{◌>>=◌, ◌>>◌, each_step}
use Rattle.pg_soundness.proofs.RowNames.{BindsOnly}
use Rattle.pg_meaning.specs.Graph.{Graph, IsGraph}
use Rattle.pg_meaning.specs.Lists.{IsListOf}
use Rattle.pg_meaning.specs.ListsLaws.{all_joined, all_mapped}
use Rattle.pg_meaning.specs.Meaning.{BoundNodesLive, PropertiesEvaluate, MergeTests, MergeRow, MergeFaults}
use Rattle.pg_meaning.specs.Meters.{Setting, State, spend}
use Rattle.pg_meaning.specs.Patterns.{Fits, PathFits, HopsFit, Bond, Trail, Assignment, bind_match, add_path_names}
use Rattle.pg_meaning.specs.Plans.{IsAnchorOf}
use Rattle.pg_soundness.proofs.ProjectedParts.{spend_fault}
use Rattle.pg_meaning.specs.Reading.{test_paths}
use Rattle.pg_meaning.specs.Rows.{Row}
use Rattle.pg_meaning.specs.Tree.{NodePattern, RelationshipPattern, PathPattern, SetItem, merge}
use Rattle.pg_meaning.specs.Updates.{count_new, items_on, make, set_row, merged_row, merge_found, merge_row, merge_clause, test_not_null}
use Rattle.pg_meaning.specs.Value.{Entries}
use Rattle.pg_meaning.specs.Walks.{PathWanted, paths_wanted, walks, Listing}
use Rattle.pg_meaning.specs.declared.fault.Fault.{Fault}
use Rattle.pg_meaning.specs.declared.fault.Fault.TheVariants.{StepQuota}

-- ---- rows of assignments that fit

module _ (parameters : Entries) (graph : Graph) (row : Row) where
  as_many_hops : (hs : List (RelationshipPattern × NodePattern)) (left : ℕ) (bs : List Bond) (ns : List ℕ) → HopsFit parameters graph row hs left bs ns → (length bs ≡ length hs) × (length ns ≡ length hs)
  as_many_hops [] left [] [] h = (refl, refl)
  as_many_hops [] left [] (n ∷ ns) h = absurd h
  as_many_hops [] left (b ∷ bs) ns h = absurd h
  as_many_hops (x ∷ hs) left [] ns h = absurd h
  as_many_hops (x ∷ hs) left (b ∷ bs) [] h = absurd h
  as_many_hops (x ∷ hs) left (b ∷ bs) (n ∷ ns) h = let k = as_many_hops hs n bs ns h.2 in (ap suc k.0, ap suc k.1)

  path_shape : (p : PathPattern) (t : Trail) → PathFits parameters graph row p t → HasShape p t
  path_shape p t h = let k = as_many_hops p.hops h.0 t.bonds h.1 h.4 in (ap length h.2 ∙ ap suc (k.1 ∙ sym (as_many_nodes p.hops)), k.0)

  shapes : (ps : List PathPattern) (ts : Assignment) → AllZip (PathFits parameters graph row) ps ts → AllZip HasShape ps ts
  shapes [] [] h = tt
  shapes [] (t ∷ ts) h = absurd h
  shapes (p ∷ ps) [] h = absurd h
  shapes (p ∷ ps) (t ∷ ts) h = (path_shape p t h.0, shapes ps ts h.1)

  rows_of_fits : (paths : List PathPattern) (names : List (List ℕ)) (found : List Assignment) → BindsOnly names row → AllByRecursion (Fits paths parameters graph row) found
      → AreRowsOf (add_path_names paths names) (map (λ a. bind_match graph paths a row) found)
  rows_of_fits paths names found h each =
      all_mapped (λ a. bind_match graph paths a row) (Fits paths parameters graph row) (λ r. BindsOnly (add_path_names paths names) r)
      (λ a fits. binds_match graph paths a names row (shapes paths a fits.each) h) found each

-- ---- a row

-- what MERGE gives of one row
abbrev RowMerges : Setting → PathPattern → List (Bool × List SetItem) → State → Row → Result State Fault → Type 0
RowMerges s p parts state row (Ok next) =
    (results : List Row) × (next.rows ≡ state.rows ++ results) × MergeRow (given_in s) p parts state.graph row next.graph results × IsGraph next.graph × AreRowsOf (add_path_names (p ∷ []) s.scope) results
RowMerges s p parts state row (Err f) = (f ≡ StepQuota) ⊎ MergeFaults (given_in s) p parts state.graph row f

same_answer : {X : Type 0} (r : Result X Fault) → (r >>= λ x. Ok x) ≡ r
same_answer (Ok x) = refl
same_answer (Err f) = refl

kept : (r : Result Graph Fault) (after : Graph) → Keeps r → r ≡ Ok after → IsGraph after
kept r after h e = subst Keeps e h

module _ (s : Setting) (p : PathPattern) (parts : List (Bool × List SetItem)) (state : State) (row : Row) (g : IsGraph state.graph) (h : BindsOnly s.scope row)
    (tested : MergeTests (given_in s) p state.graph row) where
  abbrev Merges : Result State Fault → Type 0
  Merges = RowMerges s p parts state row

  abbrev charged : ℕ → Graph → State
  charged steps graph = record { graph = graph; rows = state.rows; steps = steps }

  -- with a match
  found_merges : (steps : ℕ) (found : List Assignment) → IsListOf (Fits (p ∷ []) s.parameters state.graph row) found → found ≢ []
      → Merges (each_step (merged_row s (items_on false parts)) (charged steps state.graph) (map (λ a. bind_match state.graph (p ∷ []) a row) found))
  found_merges steps found matches some =
      by_run (each_step (merged_row s (items_on false parts)) (charged steps state.graph) (map (λ a. bind_match state.graph (p ∷ []) a row) found))
      (items_run s (items_on false parts) (map (λ a. bind_match state.graph (p ∷ []) a row) found) (charged steps state.graph))
    where
      by_run : (r : Result State Fault) → ItemsRun s (items_on false parts) (charged steps state.graph) (map (λ a. bind_match state.graph (p ∷ []) a row) found) r → Merges r
      by_run (Err f) (inl e) = inl e
      by_run (Err f) (inr e) =
          inr (inr (inr (inr (inr (tested, inl (found, matches, (set_fault_is_computed s (items_on false parts) state.graph (map (λ a. bind_match state.graph (p ∷ []) a row) found) f g).0 e))))))
      by_run (Ok next) k = (
        map (λ a. bind_match state.graph (p ∷ []) a row) found,
        k.1,
        record { tested = tested; one = inl (record { found = found; matches = matches; some = some; rows = refl; items_run = (set_is_computed s (items_on false parts) state.graph next.graph (map (λ a. bind_match state.graph (p ∷ []) a row) found) g).0 k.0 }) },
        kept (each_step (set_row s (items_on false parts)) state.graph (map (λ a. bind_match state.graph (p ∷ []) a row) found)) next.graph
            (rows_keep s (items_on false parts) (map (λ a. bind_match state.graph (p ∷ []) a row) found) state.graph g) k.0,
        rows_of_fits s.parameters state.graph row (p ∷ []) s.scope found h matches.each,
      )

  -- with none
  none_merges : (steps : ℕ) → ((a : Assignment) → Fits (p ∷ []) s.parameters state.graph row a → ⊥)
      → Merges (spend s steps (count_new s.scope (p ∷ [])) >>= λ more. make s (p ∷ []) state.graph row >>= λ made. merged_row s (items_on true parts) (charged more made.0) made.1)
  none_merges steps none = by_steps (spend s steps (count_new s.scope (p ∷ []))) (λ f e. spend_fault s steps (count_new s.scope (p ∷ [])) f e)
    where
      by_run : (after : Graph × Row) → MakeAgrees s (p ∷ []) state.graph row (Ok after) → (more : ℕ) (r : Result State Fault) → ItemsRun s (items_on true parts) (charged more after.0) (after.1 ∷ []) r → Merges r
      by_run after k more (Err f) (inl e) = inl e
      by_run after k more (Err f) (inr e) =
          inr (inr (inr (inr (inr (tested, inr (after.0, after.1 ∷ [], none, k.0, (set_fault_is_computed s (items_on true parts) after.0 (after.1 ∷ []) f k.0.graph_again).0 e))))))
      by_run after k more (Ok next) run = (
        after.1 ∷ [],
        run.1,
        record { tested = tested; one = inr (record { none = none; made = after.0; creation = k.0; items_run = (set_is_computed s (items_on true parts) after.0 next.graph (after.1 ∷ []) k.0.graph_again).0 run.0 }) },
        kept (each_step (set_row s (items_on true parts)) after.0 (after.1 ∷ [])) next.graph (rows_keep s (items_on true parts) (after.1 ∷ []) after.0 k.0.graph_again) run.0,
        (k.1, tt),
      )

      by_made : (more : ℕ) (r : Result (Graph × Row) Fault) → MakeAgrees s (p ∷ []) state.graph row r → Merges (r >>= λ made. merged_row s (items_on true parts) (charged more made.0) made.1)
      by_made more (Err f) k = inr (inr (inr (inr (inl (tested, none, k)))))
      by_made more (Ok after) k =
          subst Merges (same_answer (merged_row s (items_on true parts) (charged more after.0) after.1))
          (by_run after k more (each_step (merged_row s (items_on true parts)) (charged more after.0) (after.1 ∷ [])) (items_run s (items_on true parts) (after.1 ∷ []) (charged more after.0)))

      by_steps : (r : Result ℕ Fault) → ((f : Fault) → r ≡ Err f → f ≡ StepQuota)
          → Merges (r >>= λ more. make s (p ∷ []) state.graph row >>= λ made. merged_row s (items_on true parts) (charged more made.0) made.1)
      by_steps (Err f) is = inl (is f refl)
      by_steps (Ok more) is = by_made more (make s (p ∷ []) state.graph row) (made s (p ∷ []) state.graph row g h tested.live)

  listed_merges : (steps : ℕ) (found : Listing Assignment) → IsListOf (Fits (p ∷ []) s.parameters state.graph row) found.0 → Merges (merge_found s p parts (charged steps state.graph) row found)
  listed_merges steps found matches = by_found found.0 matches
    where
      by_found : (as_ : List Assignment) → IsListOf (Fits (p ∷ []) s.parameters state.graph row) as_ → Merges (merge_found s p parts (charged steps state.graph) row (as_, found.1))
      by_found [] listed = none_merges steps (λ a fits. listed.every a fits)
      by_found (a ∷ as_) listed = found_merges steps (a ∷ as_) listed (λ e. cc)

row_merges : (s : Setting) (p : PathPattern) (parts : List (Bool × List SetItem)) (state : State) (row : Row) → AllZip (IsAnchorOf []) (p ∷ []) s.anchors
    → IsGraph state.graph → BindsOnly s.scope row → RowMerges s p parts state row (merge_row s p parts state row)
row_merges s p parts state row planned g h = by_live (test_paths false state.graph row (p ∷ [])) (bound_tested false state.graph row (p ∷ []))
  where
    by_steps : (wanted : List PathWanted) → paths_wanted row s.parameters state.graph (p ∷ []) ≡ Ok wanted → MergeTests (given_in s) p state.graph row → (r : Result ℕ Fault) → ((f : Fault) → r ≡ Err f → f ≡ StepQuota)
        → RowMerges s p parts state row (r >>= λ steps. merge_found s p parts (record { graph = state.graph; rows = state.rows; steps = steps }) row (walks state.graph s.parameters [] wanted s.anchors row))
    by_steps wanted is tested (Err f) quota = inl (quota f refl)
    by_steps wanted is tested (Ok steps) quota =
        listed_merges s p parts state row g h tested steps (walks state.graph s.parameters [] wanted s.anchors row) (walks_list_fits s.parameters state.graph row (p ∷ []) wanted s.anchors g is planned)

    by_null : (wanted : List PathWanted) → paths_wanted row s.parameters state.graph (p ∷ []) ≡ Ok wanted → BoundNodesLive false state.graph row (p ∷ []) → PropertiesEvaluate (given_in s) state.graph (p ∷ []) row
        → (t : Result (Unit {0}) Fault) → NullTested row s.parameters state.graph p t
        → RowMerges s p parts state row (t >> (spend s state.steps (walks state.graph s.parameters [] wanted s.anchors row).1
        >>= λ steps. merge_found s p parts (record { graph = state.graph; rows = state.rows; steps = steps }) row (walks state.graph s.parameters [] wanted s.anchors row)))
    by_null wanted is live evaluated (Err f) k = inr (inr (inr (inl k)))
    by_null wanted is live evaluated (Ok x) k =
        by_steps wanted is (record { live = live; evaluated = evaluated; not_null = k }) (spend s state.steps (walks state.graph s.parameters [] wanted s.anchors row).1)
        (λ f e. spend_fault s state.steps (walks state.graph s.parameters [] wanted s.anchors row).1 f e)

    by_wanted : BoundNodesLive false state.graph row (p ∷ []) → (r : Result (List PathWanted) Fault) → paths_wanted row s.parameters state.graph (p ∷ []) ≡ r → WantedAgrees row s.parameters state.graph p r
        → RowMerges s p parts state row (r >>= λ wanted. test_not_null wanted >> (spend s state.steps (walks state.graph s.parameters [] wanted s.anchors row).1
        >>= λ steps. merge_found s p parts (record { graph = state.graph; rows = state.rows; steps = steps }) row (walks state.graph s.parameters [] wanted s.anchors row)))
    by_wanted live (Err f) is k = inr (inr (inl k))
    by_wanted live (Ok wanted) is k = by_null wanted is live k.0 (test_not_null wanted) k.1

    by_live : (t : Result (Unit {0}) Fault) → BoundTested false state.graph row (p ∷ []) t
        → RowMerges s p parts state row (t >> (paths_wanted row s.parameters state.graph (p ∷ []) >>= λ wanted. test_not_null wanted >> (spend s state.steps (walks state.graph s.parameters [] wanted s.anchors row).1
        >>= λ steps. merge_found s p parts (record { graph = state.graph; rows = state.rows; steps = steps }) row (walks state.graph s.parameters [] wanted s.anchors row))))
    by_live (Err f) k = inr (inl k)
    by_live (Ok x) k = by_wanted k (paths_wanted row s.parameters state.graph (p ∷ [])) refl (wanted_agrees row s.parameters state.graph p)

-- ---- row after row

abbrev TurnsMerge : Setting → PathPattern → List (Bool × List SetItem) → State → List Row → Result State Fault → Type 0
TurnsMerge s p parts state rows (Ok next) =
    (results : List Row) × (next.rows ≡ state.rows ++ results) × RowByRow (MergeRow (given_in s) p parts) state.graph rows next.graph results × IsGraph next.graph × AreRowsOf (add_path_names (p ∷ []) s.scope) results
TurnsMerge s p parts state rows (Err f) = (f ≡ StepQuota) ⊎ AtSomeTurn (MergeRow (given_in s) p parts) (MergeFaults (given_in s) p parts) state.graph rows f

module _ (s : Setting) (p : PathPattern) (parts : List (Bool × List SetItem)) (each : (state : State) (row : Row) → IsGraph state.graph → BindsOnly s.scope row → RowMerges s p parts state row (merge_row s p parts state row)) where
  one_turn : (rows : List Row) (state : State) (row : Row) (r : Result State Fault) → RowMerges s p parts state row r
      → ((next : State) → IsGraph next.graph → TurnsMerge s p parts next rows (each_step (merge_row s p parts) next rows))
      → TurnsMerge s p parts state (row ∷ rows) (r >>= λ next. each_step (merge_row s p parts) next rows)
  one_turn rows state row (Err f) (inl quota) rest = inl quota
  one_turn rows state row (Err f) (inr fault) rest = inr (inl fault)
  one_turn rows state row (Ok next) merged rest = joined (each_step (merge_row s p parts) next rows) (rest next merged.3)
    where
      joined : (r : Result State Fault) → TurnsMerge s p parts next rows r → TurnsMerge s p parts state (row ∷ rows) r
      joined (Ok last) k = (
        merged.0 ++ k.0,
        k.1 ∙ ap (λ rs. rs ++ k.0) merged.1 ∙ append_assoc state.rows merged.0 k.0,
        (next.graph, merged.0, k.0, merged.2, k.2, refl),
        k.3,
        all_joined _ merged.0 k.0 merged.4 k.4,
      )
      joined (Err f) (inl quota) = inl quota
      joined (Err f) (inr k) = inr (inr (next.graph, merged.0, merged.2, k))

  turns_merge : (rows : List Row) (state : State) → IsGraph state.graph → AreRowsOf s.scope rows → TurnsMerge s p parts state rows (each_step (merge_row s p parts) state rows)
  turns_merge [] state g h = ([], sym (append-nil state.rows), (refl, refl), g, tt)
  turns_merge (row ∷ rows) state g h = one_turn rows state row (merge_row s p parts state row) (each state row g h.0) (λ next after. turns_merge rows next after h.1)

  rows_make_merge : (state : State) → IsGraph state.graph → AreRowsOf s.scope state.rows → AnswerAgrees s (merge p parts) state (merge_clause s p parts state)
  rows_make_merge state g h =
      of_turns (each_step (merge_row s p parts) (record { graph = state.graph; rows = []; steps = state.steps }) state.rows) (turns_merge state.rows (record { graph = state.graph; rows = []; steps = state.steps }) g h)
    where
      of_turns : (r : Result State Fault) → TurnsMerge s p parts (record { graph = state.graph; rows = []; steps = state.steps }) state.rows r → AnswerAgrees s (merge p parts) state r
      of_turns (Ok next) t = (subst (RowByRow (MergeRow (given_in s) p parts) state.graph state.rows next.graph) (sym t.1) t.2, t.3, subst (AreRowsOf (add_path_names (p ∷ []) s.scope)) (sym t.1) t.4)
      of_turns (Err f) (inl quota) = inl quota
      of_turns (Err f) (inr t) = inr t

-- ---- the law

pub merge_agrees : MergeAgrees
merge_agrees p parts s state faults given_here planned g h =
    rows_make_merge s p parts (λ state row g h. row_merges s p parts state row planned g h) state g h
