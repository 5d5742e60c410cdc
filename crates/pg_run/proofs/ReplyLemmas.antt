-- RETURN as the last clause: the clauses before it run first, and its reply is that of the whole query.
use Rattle.std.proofs.Common.{◌≡◌, ◌≢◌, ℕ, suc, ◌≤◌, Bool, true, List, [], ◌∷◌, ◌++◌, length, map, take, Result, Ok, Err, OnOk, None, arith, refl, sym, ap, subst, ◌∙◌}
use Rattle.std.proofs.lemmas.List.{length-append, length-map, take-map}
use Rattle.std.specs.Prelude.{fold}
use Rattle.pg_json.specs.Pages.{QueryText}
use Rattle.pg_meaning.specs.Answer.{◌>>=◌}
use Rattle.pg_meaning.specs.AnswerLaws.{same_ok}
use Rattle.pg_meaning.specs.Graph.{Graph}
use Rattle.pg_meaning.specs.Meters.{Quota, Setting, State, spend}
use Rattle.pg_meaning.specs.Names.{Names}
use Rattle.pg_meaning.specs.Plans.{Anchor, IsPlanFrom, Plan}
use Rattle.pg_meaning.specs.Projections.{project_clause}
use Rattle.pg_meaning.specs.Queries.{clause_step, clauses_run, first_anchors, other_anchors, returns}
use Rattle.pg_meaning.specs.Rows.{Row, values_in}
use Rattle.pg_meaning.specs.Scopes.{column_names, return_columns, scope_after}
use Rattle.pg_meaning.specs.Tree.{Clause, return_rows, Projection}
use Rattle.pg_meaning.specs.Tree as tree
use Rattle.pg_meaning.specs.Value.{Entries}
use Rattle.pg_meaning.specs.declared.fault.Fault.{Fault}
use Rattle.pg_meaning.specs.declared.fault.Fault.TheVariants.{OutOfMemory}
use Rattle.pg_project.proofs.InTurn.{bound_twice}
use Rattle.pg_project.proofs.Projecting.{clause_is}
use Rattle.pg_project.specs.Parts.{rows_projected}
use Rattle.pg_run.specs.Returning.{Leaves, named_items, replied, returned}
use Rattle.pg_run.specs.Running.{Replies}
use Rattle.pg_rows.specs.States.{Named, named_rows, state_of, Suits}
use Rattle.pg_run.specs.Telling.{told}
use Rattle.pg_value_core.specs.Gives.{Gives}

same_all : {X : Type 0} (a : Result X Fault) → (a >>= λ x. Ok x) ≡ a
same_all (Ok x) = refl
same_all (Err f) = refl

-- ---- RETURN is there

pub returns_last : (before : List Clause) (p : Projection) → returns (before ++ return_rows p ∷ []) ≡ true
returns_last [] p = refl
returns_last (tree.match_paths o ps w ∷ cs) p = returns_last cs p
returns_last (tree.unwind e n ∷ cs) p = returns_last cs p
returns_last (tree.create ps ∷ cs) p = returns_last cs p
returns_last (tree.merge q is ∷ cs) p = returns_last cs p
returns_last (tree.set_items is ∷ cs) p = returns_last cs p
returns_last (tree.remove_items is ∷ cs) p = returns_last cs p
returns_last (tree.delete d es ∷ cs) p = returns_last cs p
returns_last (tree.with_rows q w ∷ cs) p = returns_last cs p
returns_last (return_rows q ∷ cs) p = refl

-- what is said of the reply to clauses that end in RETURN, of the reply to all
pub whole_reply : (r : Result QueryText Fault) (run : List Clause → Result State Fault) (before all : List Clause) (notes b : Bool) (p : Projection) (left : Graph) → all ≡ before ++ return_rows p ∷ [] → b ≡ returns all
    → Replies r (run (before ++ return_rows p ∷ [])) notes true (fold scope_after [] (before ++ return_rows p ∷ [])) left → Replies r (run all) notes b (fold scope_after [] all) left
whole_reply r run before all notes b p left same told h =
    subst (λ xs. Replies r (run xs) notes b (fold scope_after [] xs) left) (sym same)
    (subst (λ x. Replies r (run (before ++ return_rows p ∷ [])) notes x (fold scope_after [] (before ++ return_rows p ∷ [])) left) (sym (told ∙ ap returns same ∙ returns_last before p)) h)

pub names_last : (scope : Names) (before : List Clause) (c : Clause) → fold scope_after scope (before ++ c ∷ []) ≡ scope_after (fold scope_after scope before) c
names_last scope [] c = refl
names_last scope (b ∷ bs) c = names_last (scope_after scope b) bs c

-- ---- the plan of the clauses before

pub planned_before : (scope : Names) (before : List Clause) (c : Clause) (plan : Plan) → IsPlanFrom scope (before ++ c ∷ []) plan → IsPlanFrom scope before (take (length before) plan)
planned_before scope [] c plan h = tt
planned_before scope (b ∷ bs) c [] h = absurd h
planned_before scope (b ∷ bs) c (anchors ∷ plan) h = (h.0, planned_before (scope_after scope b) bs c plan h.1)

pub as_long : (scope : Names) (clauses : List Clause) (plan : Plan) → IsPlanFrom scope clauses plan → length plan ≡ length clauses
as_long scope [] [] h = refl
as_long scope [] (anchors ∷ plan) h = absurd h
as_long scope (c ∷ cs) [] h = absurd h
as_long scope (c ∷ cs) (anchors ∷ plan) h = ap suc (as_long (scope_after scope c) cs plan h.1)

module _ (parameters : Entries) (quota : Quota) where
  abbrev run : Names → Plan → List Clause → State → Result State Fault
  run = clauses_run parameters quota

  abbrev setting : Names → Plan → Setting
  setting scope plan = record { parameters = parameters; quota = quota; scope = scope; anchors = first_anchors plan }

  -- what is given to the clause behind these
  abbrev pub setting_behind : Names → Plan → List Clause → Setting
  setting_behind scope plan [] = setting scope plan
  setting_behind scope plan (c ∷ cs) = setting_behind (scope_after scope c) (other_anchors plan) cs

  pub setting_is : (scope : Names) (plan : Plan) (before : List Clause)
      → ((setting_behind scope plan before).parameters ≡ parameters) × ((setting_behind scope plan before).quota ≡ quota) × ((setting_behind scope plan before).scope ≡ fold scope_after scope before)
  setting_is scope plan [] = (refl, refl, refl)
  setting_is scope plan (c ∷ cs) = setting_is (scope_after scope c) (other_anchors plan) cs

  -- only the anchors of these clauses count
  run_taken : (scope : Names) (plan : Plan) (before : List Clause) (state : State) → run scope (take (length before) plan) before state ≡ run scope plan before state
  run_taken scope plan [] state = refl
  run_taken scope [] (c ∷ cs) state = refl
  run_taken scope (anchors ∷ plan) (c ∷ cs) state = λ i. clause_step (setting scope (anchors ∷ plan)) c state >>= λ next. run_taken (scope_after scope c) plan cs next i

  run_then : (scope : Names) (plan : Plan) (before : List Clause) (p : Projection) (state : State) (s : Setting) → setting_behind scope plan before ≡ s
      → run scope plan (before ++ return_rows p ∷ []) state ≡ (run scope plan before state >>= project_clause s (return_columns s.scope p) p None)
  run_then scope plan [] p state s is = same_all (project_clause (setting scope plan) (return_columns scope p) p None state) ∙ ap (λ (r : Setting). project_clause r (return_columns r.scope p) p None state) is
  run_then scope plan (c ∷ cs) p state s is =
      (λ i. clause_step (setting scope plan) c state >>= λ next. run_then (scope_after scope c) (other_anchors plan) cs p next s is i)
      ∙ sym (bound_twice (clause_step (setting scope plan) c state) (λ next. run (scope_after scope c) (other_anchors plan) cs next) (project_clause s (return_columns s.scope p) p None))

  module _ (notes : Bool) (plan : Plan) (before : List Clause) (p : Projection) (begin : State) where
    abbrev s : Setting
    s = setting_behind [] plan before

    abbrev names : Names
    names = fold scope_after [] (before ++ return_rows p ∷ [])

    abbrev all : Result State Fault
    all = run [] plan (before ++ return_rows p ∷ []) begin

    abbrev clause : State → Result State Fault
    clause = project_clause s (return_columns s.scope p) p None

    whole : all ≡ (run [] (take (length before) plan) before begin >>= clause)
    whole = run_then [] plan before p begin s refl ∙ ap (λ a. a >>= clause) (sym (run_taken [] plan before begin))

    pub before_fails : (e : Fault) → run [] (take (length before) plan) before begin ≡ Err e → all ≡ Err e
    before_fails e h = whole ∙ ap (λ a. a >>= clause) h

    same_reply : (last : State) → replied notes true names last ≡ replied notes true (column_names (return_columns s.scope p)) last
    same_reply last = ap (λ (ns : Names). replied notes true ns last) (names_last [] before (return_rows p) ∙ ap (λ (ns : Names). column_names (return_columns ns p)) (sym (setting_is [] plan before).2))

    pub then_returned : (state : State) → run [] (take (length before) plan) before begin ≡ Ok state → (all >>= replied notes true names) ≡ returned notes s p state
    then_returned state h =
        ap (λ a. a >>= replied notes true names) (whole ∙ ap (λ a. a >>= clause) h)
        ∙ (λ i. clause state >>= λ last. same_reply last i)

    -- over the rows that stand for what the clauses before leave
    module _ (graph : Graph) (t : Named) (used : ℕ) (leaves : Leaves (run [] (take (length before) plan) before begin) p (fold scope_after [] before) graph t used) where
      abbrev over : Setting
      over = record s { scope = t.names }

      clause_over : project_clause over (return_columns t.names p) p None (state_of graph t used) ≡ clause leaves.last
      clause_over = leaves.clause s (setting_is [] plan before).2

      -- RETURN leaves the graph
      graph_stays : (last : State) → all ≡ Ok last → last.graph ≡ graph
      graph_stays last ended =
          by (spend over used (length t.rows)) (rows_projected over graph (return_columns t.names p) p None (named_rows t))
          (sym (clause_is over graph (return_columns t.names p) p None t used (spend over used (length t.rows)) refl) ∙ clause_over ∙ sym (whole ∙ ap (λ a. a >>= clause) leaves.ran) ∙ ended)
        where
          by : (a : Result ℕ Fault) (b : Result (List Row) Fault) → ◌≡◌ {A = Result State Fault} (a >>= λ steps. b >>= λ rs. Ok (record { graph = graph; rows = rs; steps = steps })) (Ok last) → last.graph ≡ graph
          by (Ok steps) (Ok rs) e = sym (ap (λ (x : State). x.graph) (same_ok (record { graph = graph; rows = rs; steps = steps }) last e))
          by (Ok steps) (Err f) e = cc
          by (Err f) b e = cc

      same_returned : returned notes over p (state_of graph t used) ≡ returned notes s p leaves.last
      same_returned =
          let columns : return_columns t.names p ≡ return_columns s.scope p = leaves.columns ∙ ap (λ (ns : Names). return_columns ns p) (sym (setting_is [] plan before).2) in
          λ i. clause_over i >>= λ last. told notes last.graph (named_items (column_names (columns i))) (map values_in last.rows) last.steps

      -- the reply of RETURN is that of all clauses
      pub replies : (limit : ℕ) (r : Result QueryText Fault) → quota.max_steps ≡ limit
          → ((x : Setting) → Suits x parameters limit t.names → Gives r (returned notes x p (state_of graph t used)) (λ reply. reply)) → Replies r all notes true names graph
      replies limit r within given =
          let is = setting_is [] plan before in
          record {
            gives = subst (λ (a : Result QueryText Fault). Gives r a (λ reply. reply)) (same_returned ∙ sym (then_returned leaves.last leaves.ran))
                (given over (record { parameters_are = is.0; steps_are = ap (λ (q : Quota). q.max_steps) is.1 ∙ within; scope_is = refl }));
            graph = by r;
          }
        where
          by : (r : Result QueryText Fault) → OnOk r ((last : State) → all ≡ Ok last → last.graph ≡ graph)
          by (Ok reply) = graph_stays
          by (Err e) = tt

    pub replies_fault : (e : Fault) (left : Graph) → (e ≢ OutOfMemory → run [] (take (length before) plan) before begin ≡ Err e) → Replies (Err e) all notes true names left
    replies_fault e left h = record {
      gives = record { ok = tt; err = λ other. ap (λ a. a >>= replied notes true names) (before_fails e (h other)) };
      graph = tt;
    }

-- ---- all clauses as they stand

module _ (ended : Result State Fault) (notes b : Bool) (names : Names) where
  pub rows_reply : (graph : Graph) (t : Named) (used : ℕ) (r : Result QueryText Fault) → ended ≡ Ok (state_of graph t used) → t.names ≡ names → Gives r (replied notes b t.names (state_of graph t used)) (λ reply. reply) → Replies r ended notes b names graph
  rows_reply graph t used r h named given = record {
    gives = subst (λ (a : Result QueryText Fault). Gives r a (λ reply. reply)) (ap (λ (ns : Names). replied notes b ns (state_of graph t used)) named ∙ sym (ap (λ a. a >>= replied notes b names) h)) given;
    graph = by r;
  }
    where
      by : (r : Result QueryText Fault) → OnOk r ((last : State) → ended ≡ Ok last → last.graph ≡ graph)
      by (Ok reply) = λ last is. sym (ap (λ (x : State). x.graph) (same_ok (state_of graph t used) last (sym h ∙ is)))
      by (Err e) = tt

  pub rows_fault : (e : Fault) (left : Graph) → (e ≢ OutOfMemory → ended ≡ Err e) → Replies (Err e) ended notes b names left
  rows_fault e left h = record {
    gives = record { ok = tt; err = λ other. ap (λ a. a >>= replied notes b names) (h other) };
    graph = tt;
  }

-- ---- the anchors of the clauses before, in the program's words

module _ {X : Type 0} (f : X → List Anchor) (cs : List Clause) (c : Clause) (plan : List X) (h : IsPlanFrom [] (cs ++ c ∷ []) (map f plan)) where
  pub within_plan : (n : ℕ) → n ≡ length cs → n ≤ length plan
  within_plan n is = omega (arith, is, as_long [] (cs ++ c ∷ []) (map f plan) h, length-append cs (c ∷ []), length-map plan f)

  pub slice_is : (n : ℕ) → n ≡ length cs → map f (take n plan) ≡ take (length cs) (map f plan)
  slice_is n is = sym (take-map f n plan) ∙ ap (λ k. take k (map f plan)) is

  pub planned_slice : (n : ℕ) → n ≡ length cs → IsPlanFrom [] cs (map f (take n plan))
  planned_slice n is = subst (IsPlanFrom [] cs) (sym (slice_is n is)) (planned_before [] cs c (map f plan) h)
