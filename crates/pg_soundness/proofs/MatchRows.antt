-- MATCH at one row: what the walks list and the condition lets through is what matches.
use Rattle.std.proofs.Common.{◌≡◌, ◌≢◌, ℕ, Bool, true, false, cond, inl, inr, ◌⊎◌, List, [], ◌∷◌, map, filter, flat_map, Option, Result, Ok, Err, refl, sym, ap, subst, ◌∙◌, true≢false}
use Rattle.std.specs.List.{AllByRecursion, AllZip, zip}
use Rattle.pg_meaning.specs.Agreement.{given_in, AreGiven, AreRowsOf}
use Rattle.pg_meaning.specs.AgreementLaws.{named_in}
use Rattle.pg_meaning.specs.Answer.{◌>>=◌, ◌>>◌}
use Rattle.pg_meaning.specs.AnswerLaws.{went_well, went_wrong, same_ok}
use Rattle.pg_meaning.specs.Conditions.{conjuncts_of, condition}
use Rattle.pg_soundness.proofs.RowNames.{BindsOnly}
use Rattle.pg_meaning.specs.Grammar.{marks}
use Rattle.pg_meaning.specs.Graph.{Graph, IsGraph}
use Rattle.pg_meaning.specs.Lists.{IsIn, IsListOf}
use Rattle.pg_meaning.specs.ListsLaws.{all_at, all_filtered, in_filtered, pairs_filtered, all_both, all_weaker}
use Rattle.pg_soundness.proofs.MatchParts.{same_fault}
use Rattle.pg_meaning.specs.Meaning.{MatchRow, MatchFaults}
use Rattle.pg_meaning.specs.Meters.{Setting}
use Rattle.pg_meaning.specs.Patterns.{nodes_of, Fits, Matches, Assignment, bind_match, add_path_names}
use Rattle.pg_meaning.specs.Plans.{Fixed, IsAnchorOf, leading_of}
use Rattle.pg_meaning.specs.Reading.{test_paths, prepared, passing, or_nulls, matched}
use Rattle.pg_meaning.specs.Rows.{Row}
use Rattle.pg_meaning.specs.StaticFaults.{matching, paths_faults}
use Rattle.pg_meaning.specs.Tree.{Expression, PathPattern}
use Rattle.pg_meaning.specs.Walks.{Listing, PathWanted, paths_wanted, walks}
use Rattle.pg_meaning.specs.declared.fault.Fault.{Fault}
use Rattle.pg_soundness.proofs.MatchAnchors.{walked_or_false}
use Rattle.pg_soundness.proofs.MatchAssignments.{IsWanted, Wanting, all_wanting, IsWalked, keyed_fits, walks_listed}
use Rattle.pg_soundness.proofs.MatchBindings.{match_binds, nulls_bind}
use Rattle.pg_soundness.proofs.MatchPaths.{Placed}
use Rattle.pg_soundness.proofs.MatchWanted.{nodes_live, nodes_fault, are_paths, pairs_evaluate, pairs_fault}

module _ (s : Setting) (is_optional : Bool) (paths : List PathPattern) (where_ : Option Expression) (graph : Graph) (row : Row) where
  -- ---- WHERE

  abbrev pub tested : Assignment → Result Bool Fault
  tested a = condition where_ (bind_match graph paths a row) s.parameters graph

  abbrev rows_of : List Assignment → List Row
  rows_of as_ = map (λ a. bind_match graph paths a row) as_

  abbrev went_true : Result Bool Fault → Bool
  went_true (Ok b) = b
  went_true (Err f) = false

  abbrev passes : Assignment → Bool
  passes a = went_true (tested a)

  abbrev IsTested : Assignment → Type 0
  IsTested a = (b : Bool) × (tested a ≡ Ok b)

  passing_are : (as_ : List Assignment) (rs : List Row) → passing s graph where_ (rows_of as_) ≡ Ok rs → AllByRecursion IsTested as_ × (rs ≡ rows_of (filter passes as_))
  passing_are [] rs e = (tt, sym (same_ok [] rs e))
  passing_are (a ∷ as_) rs e =
      let first = went_well (tested a) (λ b. passing s graph where_ (rows_of as_) >>= λ others. Ok (elim b [ true ↦ bind_match graph paths a row ∷ others | false ↦ others ])) rs e in
      let rest = went_well (passing s graph where_ (rows_of as_)) (λ others. Ok (elim first.0 [ true ↦ bind_match graph paths a row ∷ others | false ↦ others ])) rs first.2 in
      let later = passing_are as_ rest.0 rest.1 in (
        ((first.0, first.1), later.0),
        sym (same_ok _ rs rest.2) ∙ by_outcome first.0 rest.0 later.1 ∙ ap (λ r. rows_of (cond (went_true r) (a ∷ filter passes as_) (filter passes as_))) (sym first.1),
      )
    where
      by_outcome : (b : Bool) (others : List Row) → others ≡ rows_of (filter passes as_) → elim b as (λ b. List Row) [ true ↦ bind_match graph paths a row ∷ others | false ↦ others ] ≡ rows_of (cond b (a ∷ filter passes as_) (filter passes as_))
      by_outcome true others h = ap (λ rs. bind_match graph paths a row ∷ rs) h
      by_outcome false others h = h

  abbrev PlacedFault : List Assignment → Fault → Type 0
  PlacedFault as_ f = (a : Assignment) × IsIn a as_ × (tested a ≡ Err f)

  passing_fault : (as_ : List Assignment) (f : Fault) → passing s graph where_ (rows_of as_) ≡ Err f → PlacedFault as_ f
  passing_fault [] f e = cc
  passing_fault (a ∷ as_) f e =
      by_first (went_wrong (tested a) (λ b. passing s graph where_ (rows_of as_) >>= rest_after b) f e) (passing_fault as_ f)
    where
      rest_after : Bool → List Row → Result (List Row) Fault
      rest_after b others = Ok (elim b [ true ↦ bind_match graph paths a row ∷ others | false ↦ others ])

      by_rest : (b : Bool) → (passing s graph where_ (rows_of as_) ≡ Err f) ⊎ ((others : List Row) × (passing s graph where_ (rows_of as_) ≡ Ok others) × (rest_after b others ≡ Err f)) → (passing s graph where_ (rows_of as_) ≡ Err f → PlacedFault as_ f) → PlacedFault (a ∷ as_) f
      by_rest b (inl h) rest = let q = rest h in (q.0, inr q.1, q.2)
      by_rest b (inr h) rest = let impossible = h.2 in cc

      by_first : (tested a ≡ Err f) ⊎ ((b : Bool) × (tested a ≡ Ok b) × ((passing s graph where_ (rows_of as_) >>= rest_after b) ≡ Err f)) → (passing s graph where_ (rows_of as_) ≡ Err f → PlacedFault as_ f) → PlacedFault (a ∷ as_) f
      by_first (inl h) rest = (a, inl refl, h)
      by_first (inr h) rest = by_rest h.0 (went_wrong (passing s graph where_ (rows_of as_)) (rest_after h.0) f h.2) rest

  -- ---- a row that is ready

  abbrev with_wanted : Result (List PathWanted) Fault → Result (Row × List PathWanted) Fault
  with_wanted o = o >>= λ wanted. Ok (row, wanted)

  abbrev pub Ready : Row × List PathWanted → Type 0
  Ready r = (test_paths true graph row paths ≡ Ok tt) × (ps : List PathWanted) × (paths_wanted row s.parameters graph paths ≡ Ok ps) × (r ≡ (row, ps))

  pub is_ready : (r : Row × List PathWanted) → prepared s graph paths row ≡ Ok r → Ready r
  is_ready r e = by_test (test_paths true graph row paths) refl e
    where
      by_wanted : test_paths true graph row paths ≡ Ok tt → (o : Result (List PathWanted) Fault) → paths_wanted row s.parameters graph paths ≡ o → with_wanted o ≡ Ok r → Ready r
      by_wanted live (Ok ps) is e = (live, ps, is, sym (same_ok (row, ps) r e))
      by_wanted live (Err f) is e = cc

      by_test : (t : Result (Unit {0}) Fault) → test_paths true graph row paths ≡ t → (t >> with_wanted (paths_wanted row s.parameters graph paths)) ≡ Ok r → Ready r
      by_test (Ok x) is e = by_wanted is (paths_wanted row s.parameters graph paths) refl e
      by_test (Err f) is e = cc

  abbrev pub FaultHere : Fault → Type 0
  FaultHere f = MatchFaults (given_in s) graph paths where_ row f

  pub not_ready : (f : Fault) → prepared s graph paths row ≡ Err f → FaultHere f
  not_ready f e = by_test (test_paths true graph row paths) refl e
    where
      by_wanted : (o : Result (List PathWanted) Fault) → paths_wanted row s.parameters graph paths ≡ o → with_wanted o ≡ Err f → FaultHere f
      by_wanted (Ok ps) is e = cc
      by_wanted (Err x) is e = inr (inl (pairs_fault s.parameters graph row paths f (is ∙ ap Err (same_fault x f e))))

      by_test : (t : Result (Unit {0}) Fault) → test_paths true graph row paths ≡ t → (t >> with_wanted (paths_wanted row s.parameters graph paths)) ≡ Err f → FaultHere f
      by_test (Ok x) is e = by_wanted (paths_wanted row s.parameters graph paths) refl e
      by_test (Err x) is e = inl (nodes_fault graph row (flat_map nodes_of paths) f (is ∙ ap Err (same_fault x f e)))

  -- ---- the answer at such a row

  abbrev pub leads : List Fixed
  leads = leading_of s.scope paths where_

  module _ (g : IsGraph graph) (binds : BindsOnly s.scope row) (faultless : paths_faults matching s.scope paths ≡ []) (are_given : AllByRecursion (λ x. AreGiven (named_in (marks x)) s.parameters) (conjuncts_of where_)) (planned : AllZip (IsAnchorOf leads) paths s.anchors) (ps : List PathWanted) (live : test_paths true graph row paths ≡ Ok tt) (wanted : paths_wanted row s.parameters graph paths ≡ Ok ps) where
    abbrev placed : List Placed
    placed = zip ps s.anchors

    are_wanted : AllZip (IsWanted s.parameters graph row) paths ps
    are_wanted = are_paths s.parameters graph row paths ps wanted

    wanting : AllZip (Wanting s.parameters graph row leads) paths placed
    wanting = all_wanting s.parameters graph row leads paths ps s.anchors are_wanted planned

    abbrev IsReached : Assignment → Type 0
    IsReached a = IsWalked s.parameters graph row leads paths placed wanting a

    abbrev IsFit : Assignment → Type 0
    IsFit a = Fits paths s.parameters graph row a

    abbrev listed : List Assignment
    listed = (walks graph s.parameters leads ps s.anchors row).0

    are_listed : IsListOf IsReached listed
    are_listed = walks_listed s.parameters graph row g leads paths ps s.anchors wanting

    reached_fits : (a : Assignment) → IsReached a → IsFit a
    reached_fits a r = subst IsFit (sym r.1) (keyed_fits s.parameters graph row leads paths placed wanting r.0 (r.2.0, r.2.2, r.2.3))

    all_fit : AllByRecursion IsFit listed
    all_fit = all_weaker IsReached IsFit reached_fits listed are_listed.each

    reached_or_false : (a : Assignment) → IsFit a → IsReached a ⊎ (tested a ≡ Ok false)
    reached_or_false a f = walked_or_false s.parameters graph row s.scope paths where_ faultless are_given binds a f placed wanting

    abbrev found : List Assignment
    found = filter passes listed

    different : {C : Type 0} → ◌≡◌ {A = Result Bool Fault} (Ok false) (Ok true) → C
    different e = absurd (true≢false (sym (same_ok false true e)))

    are_matches : AllByRecursion IsTested listed → IsListOf (Matches paths where_ s.parameters graph row) found
    are_matches t = record {
      each = all_filtered (λ a. IsFit a × IsTested a) (Matches paths where_ s.parameters graph row) passes (λ a h e. record { fits = h.0; passes = h.1.1 ∙ ap Ok (sym (ap went_true h.1.1) ∙ e) }) listed (all_both IsFit IsTested listed all_fit t);
      every = λ a m. by_reach a m (reached_or_false a m.fits);
      once = pairs_filtered (λ a b. a ≢ b) passes listed are_listed.once;
    }
      where
        by_reach : (a : Assignment) → Matches paths where_ s.parameters graph row a → IsReached a ⊎ (tested a ≡ Ok false) → IsIn a found
        by_reach a m (inl r) = in_filtered passes a listed (are_listed.every a r) (ap went_true m.passes)
        by_reach a m (inr e) = different (sym e ∙ m.passes)

    abbrev scope_behind : List (List ℕ)
    scope_behind = add_path_names paths s.scope

    rows_bind : (as_ : List Assignment) → AllByRecursion IsFit as_ → AreRowsOf scope_behind (rows_of as_)
    rows_bind [] h = tt
    rows_bind (a ∷ as_) h = (match_binds s.parameters graph row paths a s.scope row h.0.each binds, rows_bind as_ h.1)

    or_nulls_bind : (b : Bool) (rows : List Row) → AreRowsOf scope_behind rows → AreRowsOf scope_behind (or_nulls b paths row rows)
    or_nulls_bind true [] rows = (nulls_bind paths s.scope row binds, tt)
    or_nulls_bind true (r ∷ rs) rows = rows
    or_nulls_bind false [] rows = rows
    or_nulls_bind false (r ∷ rs) rows = rows

    abbrev here : Row × Listing Assignment
    here = (row, walks graph s.parameters leads ps s.anchors row)

    abbrev or_nulls_here : List Row → Result (List Row) Fault
    or_nulls_here rs = Ok (or_nulls is_optional paths row rs)

    pub row_matched : (rs : List Row) → matched s graph is_optional paths where_ here ≡ Ok rs → MatchRow (given_in s) graph is_optional paths where_ row rs × AreRowsOf scope_behind rs
    row_matched rs e =
        let went = went_well (passing s graph where_ (rows_of listed)) or_nulls_here rs e in
        let passed = passing_are listed went.0 went.1 in
        let results : rs ≡ or_nulls is_optional paths row (rows_of found) = sym (same_ok (or_nulls is_optional paths row went.0) rs went.2) ∙ ap (or_nulls is_optional paths row) passed.1 in (
          record {
            live = nodes_live graph row (flat_map nodes_of paths) tt live;
            evaluated = pairs_evaluate s.parameters graph row paths ps are_wanted;
            decided = λ a f. by_reach a passed.0 (reached_or_false a f);
            found = found;
            matches = are_matches passed.0;
            bound = results;
          },
          subst (AreRowsOf scope_behind) (sym results) (or_nulls_bind is_optional (rows_of found) (rows_bind found (all_filtered IsFit IsFit passes (λ a h e. h) listed all_fit))),
        )
      where
        by_reach : (a : Assignment) → AllByRecursion IsTested listed → IsReached a ⊎ (tested a ≡ Ok false) → IsTested a
        by_reach a t (inl r) = all_at IsTested a listed t (are_listed.every a r)
        by_reach a t (inr e) = (false, e)

    pub row_fault : (f : Fault) → matched s graph is_optional paths where_ here ≡ Err f → FaultHere f
    row_fault f e = by_passing (went_wrong (passing s graph where_ (rows_of listed)) or_nulls_here f e)
      where
        by_passing : (passing s graph where_ (rows_of listed) ≡ Err f) ⊎ ((rs : List Row) × (passing s graph where_ (rows_of listed) ≡ Ok rs) × (or_nulls_here rs ≡ Err f)) → FaultHere f
        by_passing (inl h) = let q = passing_fault listed f h in inr (inr (q.0, all_at IsFit q.0 listed all_fit q.1, q.2))
        by_passing (inr h) = let impossible = h.2 in cc
