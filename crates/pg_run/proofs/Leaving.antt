-- The rows that RETURN looks at stand for those that the clauses leave.
use Rattle.std.proofs.Common.{◌≡◌, Bool, Option, option_map, Vec, Global, List, [], ◌∷◌, ◌++◌, map, Result, Ok, Err, IsErrAnd, None, false, refl, sym, ap, subst, ◌∙◌}
use Rattle.std.proofs.lemmas.List.{length-map, map-append}
use Rattle.std.specs.Prelude.{ℕ, ◌≢◌, fold, IfErr, IfOk}
use Rattle.pg_match.specs.Clauses.{bare}
use Rattle.pg_match.specs.Repeated.{with_counts}
use Rattle.pg_match.specs.Unread.{MatchedAlike}
use Rattle.pg_meaning.specs.Answer.{◌>>=◌}
use Rattle.pg_meaning.specs.AnswerLaws.{same_ok}
use Rattle.pg_meaning.specs.Graph.{Graph}
use Rattle.pg_meaning.specs.Meters.{Quota, Setting, State}
use Rattle.pg_meaning.specs.Names.{Names}
use Rattle.pg_meaning.specs.Plans.{Anchor, ArePlanned, IsPlanFrom, Plan}
use Rattle.pg_meaning.specs.Queries.{clause_step, clauses_run}
use Rattle.pg_meaning.specs.Reading.{match_clause}
use Rattle.pg_meaning.specs.Rows.{Row}
use Rattle.pg_meaning.specs.Scopes.{return_columns, scope_after}
use Rattle.pg_match_stages.specs.declared.anchor.Anchor.{Anchor as AnchorCode}
use Rattle.pg_meaning.specs.Tree.{Clause, Expression, match_paths, PathPattern, Projection}
use Rattle.pg_meaning.specs.Value.{Entries}
use Rattle.pg_meaning.specs.declared.fault.Fault.{Fault}
use Rattle.pg_project.proofs.InTurn.{bound_twice}
use Rattle.pg_project.specs.Returned.{OnlyCounts, return_clause}
use Rattle.pg_reads.proofs.ReturnedAlike.{columns_stay, returned_alike}
use Rattle.pg_rows.specs.States.{Named, named_rows, seen, state_of}
use Rattle.pg_rows.specs.declared.named.BindingTable.{BindingTable}
use Rattle.pg_value_core.specs.Gives.{Gives}
use Rattle.pg_meaning.specs.declared.fault.Fault.TheVariants.{OutOfMemory}
use Rattle.pg_run.specs.Returning.{Leaves}
use Rattle.pg_run.specs.Runs.{anchors_view, plan_view}
use Rattle.pg_syntax_tree.specs.View.{clause_view, expression_view, path_view}
use Rattle.pg_syntax_tree.specs.declared.clauses.Clause.{Clause as Code}
use Rattle.pg_syntax_tree.specs.declared.clauses.Clause.TheVariants as code
use Rattle.pg_syntax_tree.specs.declared.expression.Expression.{Expression as ExpressionCode}
use Rattle.pg_syntax_tree.specs.declared.patterns.PathPattern.{PathPattern as PathCode}
use Rattle.pg_write.proofs.ExitLemmas.{gives_fault}

module _ (p : Projection) (names : Names) (run : Result State Fault) (graph : Graph) (t : Named) (steps : ℕ) where
  whole_rows : run ≡ Ok (state_of graph t steps) → t.names ≡ names → Leaves run p names graph t steps
  whole_rows ran named = record {
    last = state_of graph t steps;
    ran = ran;
    columns = ap (λ (ns : Names). return_columns ns p) named;
    clause = λ s scope. ap (λ (ns : Names). return_clause (record s { scope = ns }) p (state_of graph t steps)) (named ∙ sym scope);
  }

  counted_rows : OnlyCounts p → (matched : Result State Fault) → run ≡ matched → (matched >>= λ last. Ok (bare last)) ≡ Ok (state_of graph t steps) → Leaves run p names graph t steps
  counted_rows counts (Err e) same ok = absurd (cc)
  counted_rows counts (Ok last) same ok =
      let is : bare last ≡ state_of graph t steps = same_ok (bare last) (state_of graph t steps) ok in
      record {
        last = last;
        ran = same;
        columns = counts.columns t.names names;
        clause = λ s scope.
            ap (return_clause (record s { scope = t.names }) p) (sym is)
            ∙ counts.rows s t.names last (bare last).rows (length-map last.rows (λ row. let none : Row = [] in none));
      }

-- ---- the last clause

same_all : {X : Type 0} (a : Result X Fault) → (a >>= λ x. Ok x) ≡ a
same_all (Ok x) = refl
same_all (Err f) = refl

nothing_left : {C : Type 0} (scope : Names) (plan : Plan) (anchors : List Anchor) → IsPlanFrom scope [] (plan ++ anchors ∷ []) → C
nothing_left scope [] anchors h = absurd h
nothing_left scope (a ∷ plan) anchors h = absurd h

not_planned : {C : Type 0} (scope : Names) (cs : List Clause) (c : Clause) → IsPlanFrom scope (cs ++ c ∷ []) [] → C
not_planned scope [] c h = absurd h
not_planned scope (b ∷ cs) c h = absurd h

planned_earlier : (scope : Names) (cs : List Clause) (c : Clause) (plan : Plan) (anchors : List Anchor) → IsPlanFrom scope (cs ++ c ∷ []) (plan ++ anchors ∷ []) → IsPlanFrom scope cs plan
planned_earlier scope [] c [] anchors h = tt
planned_earlier scope [] c (a ∷ plan) anchors h = nothing_left (scope_after scope c) plan anchors h.1
planned_earlier scope (b ∷ cs) c [] anchors h = not_planned (scope_after scope b) cs c h.1
planned_earlier scope (b ∷ cs) c (a ∷ plan) anchors h = (h.0, planned_earlier (scope_after scope b) cs c plan anchors h.1)

planned_last : (scope : Names) (cs : List Clause) (c : Clause) (plan : Plan) (anchors : List Anchor) → IsPlanFrom scope (cs ++ c ∷ []) (plan ++ anchors ∷ []) → ArePlanned (fold scope_after scope cs) c anchors
planned_last scope [] c [] anchors h = h.0
planned_last scope [] c (a ∷ plan) anchors h = nothing_left (scope_after scope c) plan anchors h.1
planned_last scope (b ∷ cs) c [] anchors h = not_planned (scope_after scope b) cs c h.1
planned_last scope (b ∷ cs) c (a ∷ plan) anchors h = planned_last (scope_after scope b) cs c plan anchors h.1

module _ (parameters : Entries) (quota : Quota) where
  abbrev run : Names → Plan → List Clause → State → Result State Fault
  run = clauses_run parameters quota

  abbrev setting : Names → List Anchor → Setting
  setting scope anchors = record { parameters = parameters; quota = quota; scope = scope; anchors = anchors }

  run_last : (scope : Names) (cs : List Clause) (c : Clause) (plan : Plan) (anchors : List Anchor) (state : State) → IsPlanFrom scope (cs ++ c ∷ []) (plan ++ anchors ∷ [])
      → run scope (plan ++ anchors ∷ []) (cs ++ c ∷ []) state ≡ (run scope plan cs state >>= clause_step (setting (fold scope_after scope cs) anchors) c)
  run_last scope [] c [] anchors state h = same_all (clause_step (setting scope anchors) c state)
  run_last scope [] c (a ∷ plan) anchors state h = nothing_left (scope_after scope c) plan anchors h.1
  run_last scope (b ∷ cs) c [] anchors state h = not_planned (scope_after scope b) cs c h.1
  run_last scope (b ∷ cs) c (a ∷ plan) anchors state h =
      (λ i. clause_step (setting scope a) b state >>= λ next. run_last (scope_after scope b) cs c plan anchors next h.1 i)
      ∙ sym (bound_twice (clause_step (setting scope a) b state) (λ next. run (scope_after scope b) plan cs next) (clause_step (setting (fold scope_after (scope_after scope b) cs) anchors) c))

-- ---- in the program's words

pub last_match : (all before : List Code) (last : Code) (b : Bool) (ps : Vec PathCode Global) (w : Option ExpressionCode) → all ≡ before ++ last ∷ [] → last ≡ code.Match b ps w → b ≡ false → w ≡ None
    → map clause_view all ≡ map clause_view before ++ match_paths false (map path_view ps.items) None ∷ []
last_match all before last b ps w split is plain free =
    ap (map clause_view) (split ∙ ap (λ x. before ++ x ∷ []) (is ∙ (λ i. code.Match (plain i) ps (free i)))) ∙ map-append clause_view before (code.Match false ps None ∷ [])

pub last_matched : (all before : List Code) (last : Code) (b : Bool) (ps : Vec PathCode Global) (w : Option ExpressionCode) → all ≡ before ++ last ∷ [] → last ≡ code.Match b ps w
    → map clause_view all ≡ map clause_view before ++ match_paths b (map path_view ps.items) (option_map expression_view w) ∷ []
last_matched all before last b ps w split is =
    ap (map clause_view) (split ∙ ap (λ x. before ++ x ∷ []) is) ∙ map-append clause_view before (code.Match b ps w ∷ [])

pub last_anchors : (plan earlier : List (Vec AnchorCode Global)) (anchors : Vec AnchorCode Global) → plan ≡ earlier ++ anchors ∷ [] → plan_view plan ≡ plan_view earlier ++ anchors_view anchors.items ∷ []
last_anchors plan earlier anchors split = ap plan_view split ∙ map-append (λ (anchors : Vec AnchorCode Global). anchors_view anchors.items) earlier (anchors ∷ [])

-- ---- by what a call gave

module _ (p : Projection) (names : Names) (run : Result State Fault) (graph : Graph) (steps : ℕ) where
  pub whole_ok : (r : Result BindingTable Fault) → Gives r run (λ t. state_of graph (seen t) steps) → IfOk r (λ t. (seen t).names ≡ names) → IfOk r (λ t. Leaves run p names graph (seen t) steps)
  whole_ok (Ok t) given named = whole_rows p names run graph (seen t) steps given.ok named
  whole_ok (Err e) given named = tt

  module _ (matched : Result State Fault) (same : run ≡ matched) where
    pub counted_ok : (r : Result BindingTable Fault) → OnlyCounts p → Gives r (matched >>= λ last. Ok (bare last)) (λ t. state_of graph (seen t) steps) → IfOk r (λ t. Leaves run p names graph (seen t) steps)
    counted_ok (Ok t) counts given = counted_rows p names run graph (seen t) steps counts matched same given.ok
    counted_ok (Err e) counts given = tt

    as_bare : (a : Result State Fault) (e : Fault) → (a >>= λ last. Ok (bare last)) ≡ Err e → a ≡ Err e
    as_bare (Ok last) e h = absurd (cc)
    as_bare (Err f) e h = h

    pub counted_err : (r : Result BindingTable Fault) → Gives r (matched >>= λ last. Ok (bare last)) (λ t. state_of graph (seen t) steps) → IfErr r (λ e. e ≢ OutOfMemory → run ≡ Err e)
    counted_err (Ok t) given = tt
    counted_err (Err e) given = λ other. same ∙ as_bare matched e (given.err other)

-- rows that come as often as their counts tell
abbrev pub seen_often : BindingTable × Vec ℕ Global → Named
seen_often t = with_counts (seen t.0) t.1.items

pub whole_often : (p : Projection) (names : Names) (run : Result State Fault) (graph : Graph) (steps : ℕ) (table : BindingTable) (t : BindingTable × Vec ℕ Global) → run ≡ Ok (state_of graph (seen table) steps) → (seen table).names ≡ names → seen_often t ≡ seen table
    → Leaves run p names graph (seen_often t) steps
whole_often p names run graph steps table t ran named same = subst (λ (n : Named). Leaves run p names graph n steps) (sym same) (whole_rows p names run graph (seen table) steps ran named)

-- the rows of a MATCH that have what RETURN reads
module _ (p : Projection) (names : Names) (run matched : Result State Fault) (same : run ≡ matched) (graph : Graph) (steps : ℕ) where
  rows_read : p.star ≡ None → (t : Named) → MatchedAlike p matched graph t steps → Leaves run p names graph t steps
  rows_read none t h = record {
    last = record { graph = graph; rows = h.rows; steps = steps };
    ran = same ∙ h.ran;
    columns = columns_stay p t.names names none;
    clause = λ s scope. sym (returned_alike s t.names graph p none h.rows (named_rows t) h.alike steps);
  }

  pub read_ok : {R : Type 0} (rows_in : R → Named) → p.star ≡ None → (r : Result R Fault) → IfOk r (λ t. MatchedAlike p matched graph (rows_in t) steps) → IfOk r (λ t. Leaves run p names graph (rows_in t) steps)
  read_ok rows_in none (Ok t) h = rows_read none (rows_in t) h
  read_ok rows_in none (Err e) h = tt

  pub read_err : {R : Type 0} (r : Result R Fault) → IfErr r (λ e. e ≢ OutOfMemory → matched ≡ Err e) → IfErr r (λ e. e ≢ OutOfMemory → run ≡ Err e)
  read_err (Ok t) h = tt
  read_err (Err e) h = λ other. same ∙ h other

-- ---- the last clause apart

module _ (cs : List Clause) (last : Clause) (plan : Plan) (anchors : List Anchor) (clauses : List Clause) (whole : Plan)
    (ends : clauses ≡ cs ++ last ∷ []) (anchored : whole ≡ plan ++ anchors ∷ []) (planned : IsPlanFrom [] clauses whole) where
  planned_in_two : IsPlanFrom [] (cs ++ last ∷ []) (plan ++ anchors ∷ [])
  planned_in_two = subst (λ some. IsPlanFrom [] some (plan ++ anchors ∷ [])) ends (subst (λ p. IsPlanFrom [] clauses p) anchored planned)

  pub planned_before : IsPlanFrom [] cs plan
  planned_before = planned_earlier [] cs last plan anchors planned_in_two

  pub planned_there : ArePlanned (fold scope_after [] cs) last anchors
  planned_there = planned_last [] cs last plan anchors planned_in_two

  module _ (parameters : Entries) (quota : Quota) (begun : State) where
    abbrev all_run : Result State Fault
    all_run = clauses_run parameters quota [] whole clauses begun

    abbrev earlier_run : Result State Fault
    earlier_run = clauses_run parameters quota [] plan cs begun

    abbrev step : State → Result State Fault
    step = clause_step (setting parameters quota (fold scope_after [] cs) anchors) last

    in_two : all_run ≡ (earlier_run >>= step)
    in_two =
        ap (λ p. clauses_run parameters quota [] p clauses begun) anchored
        ∙ ap (λ some. clauses_run parameters quota [] (plan ++ anchors ∷ []) some begun) ends
        ∙ run_last parameters quota [] cs last plan anchors begun planned_in_two

    pub match_last : (left : State) → earlier_run ≡ Ok left → all_run ≡ step left
    match_last left ran = in_two ∙ ap (λ r. r >>= step) ran

    pub fault_before : {R : Type 0} (r : Result R Fault) (e : Fault) → IsErrAnd r (λ f. f ≡ e) → (e ≢ OutOfMemory → earlier_run ≡ Err e) → IfErr r (λ f. f ≢ OutOfMemory → all_run ≡ Err f)
    fault_before r e is h = (gives_fault r e all_run (λ t. begun) is (λ other. in_two ∙ ap (λ r. r >>= step) (h other))).err

-- over the paths and the graph that are lent
pub matched_on : (r : Result BindingTable Fault) (s : Setting) (lent paths : List PathCode) (seen_graph graph : Graph) (t : Named) (before after : ℕ) → lent ≡ paths → seen_graph ≡ graph
    → Gives r (match_clause s false (map path_view lent) None (state_of seen_graph t before) >>= λ last. Ok (bare last)) (λ made. state_of seen_graph (seen made) after)
    → Gives r (match_clause s false (map path_view paths) None (state_of graph t before) >>= λ last. Ok (bare last)) (λ made. state_of graph (seen made) after)
matched_on r s lent paths seen_graph graph t before after on_paths on_graph given =
    subst (λ (g : Graph). Gives r (match_clause s false (map path_view paths) None (state_of g t before) >>= λ last. Ok (bare last)) (λ made. state_of g (seen made) after)) on_graph
    (subst (λ ps. Gives r (match_clause s false (map path_view ps) None (state_of seen_graph t before) >>= λ last. Ok (bare last)) (λ made. state_of seen_graph (seen made) after)) on_paths given)

module _ {R : Type 0} (rows_in : R → Named) (p : Projection) (r : Result R Fault) (s : Setting) (b : Bool) (w : Option Expression) (lent paths : List PathCode) (seen_graph graph : Graph) (t : Named) (before after : ℕ) (on_paths : lent ≡ paths) (on_graph : seen_graph ≡ graph) where
  pub read_on : IfOk r (λ made. MatchedAlike p (match_clause s b (map path_view lent) w (state_of seen_graph t before)) seen_graph (rows_in made) after)
      → IfOk r (λ made. MatchedAlike p (match_clause s b (map path_view paths) w (state_of graph t before)) graph (rows_in made) after)
  read_on given =
      subst (λ (g : Graph). IfOk r (λ made. MatchedAlike p (match_clause s b (map path_view paths) w (state_of g t before)) g (rows_in made) after)) on_graph
      (subst (λ ps. IfOk r (λ made. MatchedAlike p (match_clause s b (map path_view ps) w (state_of seen_graph t before)) seen_graph (rows_in made) after)) on_paths given)

  pub not_read_on : IfErr r (λ e. e ≢ OutOfMemory → match_clause s b (map path_view lent) w (state_of seen_graph t before) ≡ Err e) → IfErr r (λ e. e ≢ OutOfMemory → match_clause s b (map path_view paths) w (state_of graph t before) ≡ Err e)
  not_read_on given =
      subst (λ (g : Graph). IfErr r (λ e. e ≢ OutOfMemory → match_clause s b (map path_view paths) w (state_of g t before) ≡ Err e)) on_graph
      (subst (λ ps. IfErr r (λ e. e ≢ OutOfMemory → match_clause s b (map path_view ps) w (state_of seen_graph t before) ≡ Err e)) on_paths given)
