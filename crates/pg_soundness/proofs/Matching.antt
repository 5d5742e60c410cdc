-- MATCH agrees with its meaning, row after row.
use Rattle.std.proofs.Common.{◌≡◌, ℕ, Bool, inl, inr, List, [], ◌∷◌, map, sum, Option, Result, Ok, Err, refl, subst}
use Rattle.std.specs.List.{AllByRecursion, AllZip}
use Rattle.pg_meaning.specs.Turns.{RowAfterRow, AtSomeRow}
use Rattle.pg_meaning.specs.Agreement.{given_in, AreGiven, AreRowsOf, AnswerAgrees}
use Rattle.pg_meaning.specs.AgreementLaws.{named_in}
use Rattle.pg_meaning.specs.Answer.{◌>>=◌, each_answer}
use Rattle.pg_meaning.specs.AnswerLaws.{by_answer, answers_zip, answers_fault}
use Rattle.pg_meaning.specs.Conditions.{conjuncts_of}
use Rattle.pg_meaning.specs.Grammar.{marks}
use Rattle.pg_meaning.specs.Graph.{Graph, IsGraph}
use Rattle.pg_meaning.specs.Lists.{IsIn}
use Rattle.pg_meaning.specs.ListsLaws.{all_joined}
use Rattle.pg_meaning.specs.Meaning.{MatchRow, MatchFaults}
use Rattle.pg_meaning.specs.Meters.{Setting, State, spend}
use Rattle.pg_meaning.specs.Patterns.{Assignment, add_path_names}
use Rattle.pg_meaning.specs.Plans.{Fixed, IsAnchorOf, leading_of}
use Rattle.pg_soundness.proofs.ProjectedParts.{spend_fault}
use Rattle.pg_meaning.specs.Reading.{prepared, matched, joined_rows}
use Rattle.pg_meaning.specs.Rows.{Row}
use Rattle.pg_meaning.specs.StaticFaults.{matching, paths_faults}
use Rattle.pg_meaning.specs.Tree.{Expression, PathPattern, match_paths}
use Rattle.pg_meaning.specs.Walks.{Listing, PathWanted, walks}
use Rattle.pg_meaning.specs.declared.fault.Fault.{Fault}
use Rattle.pg_soundness.proofs.MatchLeads.{clause_given}
use Rattle.pg_soundness.proofs.MatchRows.{is_ready, not_ready, row_matched, row_fault}
use Rattle.pg_soundness.proofs.MatchScopes.{first_none}
use Rattle.pg_soundness.specs.Matching.{MatchAgrees}

module _ (s : Setting) (is_optional : Bool) (paths : List PathPattern) (where_ : Option Expression) (graph : Graph) (g : IsGraph graph) (faultless : paths_faults matching s.scope paths ≡ []) (are_given : AllByRecursion (λ x. AreGiven (named_in (marks x)) s.parameters) (conjuncts_of where_)) (planned : AllZip (IsAnchorOf (leading_of s.scope paths where_)) paths s.anchors) where
  abbrev leads : List Fixed
  leads = leading_of s.scope paths where_

  abbrev listed : Row × List PathWanted → Row × Listing Assignment
  listed r = (r.0, walks graph s.parameters leads r.1 s.anchors r.0)

  abbrev match_row : Row × Listing Assignment → Result (List Row) Fault
  match_row l = matched s graph is_optional paths where_ l

  abbrev ArePrepared : List Row → List (Row × List PathWanted) → Type 0
  ArePrepared rows ready = AllZip (λ row r. prepared s graph paths row ≡ Ok r) rows ready

  abbrev Rows : List Row → List Row → Type 0
  Rows rows results = RowAfterRow (MatchRow (given_in s) graph is_optional paths where_) rows results × AreRowsOf (add_path_names paths s.scope) results

  rows_agree : (rows : List Row) (ready : List (Row × List PathWanted)) (found : List (List Row)) → AreRowsOf s.scope rows → ArePrepared rows ready → AllZip (λ l rs. match_row l ≡ Ok rs) (map listed ready) found → Rows rows (joined_rows found)
  rows_agree [] [] [] h z m = (refl, tt)
  rows_agree [] [] (rs ∷ found) h z m = absurd m
  rows_agree [] (r ∷ ready) found h z m = absurd z
  rows_agree (row ∷ rows) [] found h z m = absurd z
  rows_agree (row ∷ rows) (r ∷ ready) [] h z m = absurd m
  rows_agree (row ∷ rows) (r ∷ ready) (rs ∷ found) h z m =
      let is = is_ready s is_optional paths where_ graph row r z.0 in
      let first = row_matched s is_optional paths where_ graph row g h.0 faultless are_given planned is.1 is.0 is.2 rs (subst (λ q. match_row (listed q) ≡ Ok rs) is.3 m.0) in
      let others = rows_agree rows ready found h.1 z.1 m.1 in
      ((rs, joined_rows found, first.0, others.0, refl), all_joined _ rs (joined_rows found) first.1 others.1)

  abbrev SomeRowFaults : List Row → Fault → Type 0
  SomeRowFaults rows f = AtSomeRow (MatchFaults (given_in s) graph paths where_) rows f

  fault_at : (rows : List Row) (ready : List (Row × List PathWanted)) (f : Fault) → AreRowsOf s.scope rows → ArePrepared rows ready → (l : Row × Listing Assignment) → IsIn l (map listed ready) → match_row l ≡ Err f → SomeRowFaults rows f
  fault_at [] [] f h z l i e = absurd i
  fault_at [] (r ∷ ready) f h z l i e = absurd z
  fault_at (row ∷ rows) [] f h z l i e = absurd z
  fault_at (row ∷ rows) (r ∷ ready) f h z l (inl same) e =
      let is = is_ready s is_optional paths where_ graph row r z.0 in
      (row, inl refl, row_fault s is_optional paths where_ graph row g h.0 faultless are_given planned is.1 is.0 is.2 f (subst (λ q. match_row (listed q) ≡ Err f) is.3 (subst (λ k. match_row k ≡ Err f) same e)))
  fault_at (row ∷ rows) (r ∷ ready) f h z l (inr later) e = let q = fault_at rows ready f h.1 z.1 l later e in (q.0, inr q.1, q.2)

  -- ---- the clause

  abbrev charge : List (Row × List PathWanted) → ℕ
  charge ready = sum (map (λ l. l.1.1) (map listed ready))

  abbrev after : State → ℕ → List (List Row) → Result State Fault
  after state steps found = Ok (record { graph = graph; rows = joined_rows found; steps = steps })

  abbrev found_after : State → List (Row × List PathWanted) → ℕ → Result State Fault
  found_after state ready steps = each_answer match_row (map listed ready) >>= after state steps

  abbrev spent : State → List (Row × List PathWanted) → Result State Fault
  spent state ready = spend s state.steps (charge ready) >>= found_after state ready

pub match_agrees : MatchAgrees
match_agrees is_optional paths where_ s state faults given_here planned g h =
    by_answer Agrees (each_answer (prepared s state.graph paths) state.rows) spent_here
    (λ ready e0. by_answer Agrees (spend s state.steps (charge_here ready)) (found_here ready)
    (λ steps e1. by_answer Agrees (each_answer row_of (map list_of ready)) (after_here steps)
    (λ found e2. of_rows steps found (rows_agree s is_optional paths where_ state.graph g faultless are_given planned state.rows ready found h (zipped_rows ready e0) (answers_zip row_of (map list_of ready) found e2)))
    (λ f e2. let q = answers_fault row_of (map list_of ready) f e2 in inr (fault_at s is_optional paths where_ state.graph g faultless are_given planned state.rows ready f h (zipped_rows ready e0) q.0 q.1 q.2)))
    (λ f e1. inl (spend_fault s state.steps (charge_here ready) f e1)))
    (λ f e0. let q = answers_fault (prepared s state.graph paths) state.rows f e0 in inr (q.0, q.1, not_ready s is_optional paths where_ state.graph q.0 f q.2))
  where
    faultless : paths_faults matching s.scope paths ≡ []
    faultless = first_none (paths_faults matching s.scope paths) _ faults

    are_given : AllByRecursion (λ x. AreGiven (named_in (marks x)) s.parameters) (conjuncts_of where_)
    are_given = clause_given s.parameters state.graph [] is_optional paths where_ given_here

    Agrees : Result State Fault → Type 0
    Agrees = AnswerAgrees s (match_paths is_optional paths where_) state

    list_of : Row × List PathWanted → Row × Listing Assignment
    list_of = listed s is_optional paths where_ state.graph g faultless are_given planned

    row_of : Row × Listing Assignment → Result (List Row) Fault
    row_of = match_row s is_optional paths where_ state.graph g faultless are_given planned

    charge_here : List (Row × List PathWanted) → ℕ
    charge_here = charge s is_optional paths where_ state.graph g faultless are_given planned

    after_here : ℕ → List (List Row) → Result State Fault
    after_here = after s is_optional paths where_ state.graph g faultless are_given planned state

    found_here : List (Row × List PathWanted) → ℕ → Result State Fault
    found_here = found_after s is_optional paths where_ state.graph g faultless are_given planned state

    spent_here : List (Row × List PathWanted) → Result State Fault
    spent_here = spent s is_optional paths where_ state.graph g faultless are_given planned state

    zipped_rows : (ready : List (Row × List PathWanted)) → each_answer (prepared s state.graph paths) state.rows ≡ Ok ready → AllZip (λ row r. prepared s state.graph paths row ≡ Ok r) state.rows ready
    zipped_rows ready e = answers_zip (prepared s state.graph paths) state.rows ready e

    of_rows : (steps : ℕ) (found : List (List Row)) → Rows s is_optional paths where_ state.graph g faultless are_given planned state.rows (joined_rows found) → Agrees (after_here steps found)
    of_rows steps found r = ((refl, r.0), g, r.1)
