use Rattle.std.proofs.Common.{◌≡◌, ℕ, Bool, List, map, length, Result, Ok, refl, sym, ap, subst, ◌∙◌}
use Rattle.std.proofs.lemmas.List.{length-map}
use Rattle.std.proofs.lemmas.Result.{IfOk-from_err}
use Rattle.std.proofs.lemmas.Slice.Zip.{AllZip-long}
use Rattle.std.specs.Prelude.{IfOk, Option}
use Rattle.pg_match_stages.specs.View.{anchor_view}
use Rattle.pg_meaning.specs.Graph.{Graph}
use Rattle.pg_meaning.specs.Meters.{Setting, State}
use Rattle.pg_meaning.specs.Patterns.{add_path_names}
use Rattle.pg_meaning.specs.Plans.{ArePlanned}
use Rattle.pg_meaning.specs.Queries.{clause_step}
use Rattle.pg_meaning.specs.Reading.{match_clause}
use Rattle.pg_meaning.specs.Scopes.{scope_after}
use Rattle.pg_meaning.specs.Tree.{Expression as Tree}
use Rattle.pg_meaning.specs.declared.fault.Fault.{Fault}
use Rattle.pg_rows.specs.States.{Named, seen, state_of}
use Rattle.pg_rows.specs.declared.named.BindingTable.{BindingTable}
use Rattle.pg_run.proofs.Settings.{suits_own}
use Rattle.pg_run.specs.Runs.{anchors_view, setting_of}
use Rattle.pg_syntax_tree.specs.View.{clause_view, path_view}
use Rattle.pg_syntax_tree.specs.declared.clauses.Clause.{Clause}
use Rattle.pg_syntax_tree.specs.declared.patterns.PathPattern.{PathPattern}
use Rattle.pg_value_core.specs.Given.{parameters_view}
use Rattle.pg_value_core.specs.Gives.{Gives}
use Rattle.pg_write.proofs.ExitLemmas.{gives_fault}
use Rattle.pg_run.proofs.clause.run_clause.Goals as goal

-- what is said of a clause's kind, of the clause
module _ (whole part : Clause) (is : whole ≡ part) (r : Result BindingTable Fault) where
  given_of : (s : Setting) (state : State) (after : BindingTable → State) → Gives r (clause_step s (clause_view part) state) after → Gives r (clause_step s (clause_view whole) state) after
  given_of s state after h = subst (λ c. Gives r (clause_step s (clause_view c) state) after) (sym is) h

  named_of : (names : List (List ℕ)) → IfOk r (λ t. (seen t).names ≡ scope_after names (clause_view part)) → IfOk r (λ t. (seen t).names ≡ scope_after names (clause_view whole))
  named_of names h = subst (λ c. IfOk r (λ t. (seen t).names ≡ scope_after names (clause_view c))) (sym is) h

  on_graph : (s : Setting) (t : Named) (before after : ℕ) (lent graph : Graph) → lent ≡ graph
      → Gives r (clause_step s (clause_view part) (state_of lent t before)) (λ made. state_of lent (seen made) after) → Gives r (clause_step s (clause_view whole) (state_of graph t before)) (λ made. state_of graph (seen made) after)
  on_graph s t before after lent graph same h =
      given_of s (state_of graph t before) (λ made. state_of graph (seen made) after)
      (subst (λ (x : Graph). Gives r (clause_step s (clause_view part) (state_of x t before)) (λ made. state_of x (seen made) after)) same h)

-- a clause over paths that are borrowed as a slice
module _ (lent paths : List PathPattern) (is : lent ≡ paths) (r : Result BindingTable Fault) where
  on_paths : (s : Setting) (is_optional : Bool) (condition : Option Tree) (state : State) (after : BindingTable → State)
      → Gives r (match_clause s is_optional (map path_view lent) condition state) after → Gives r (match_clause s is_optional (map path_view paths) condition state) after
  on_paths s is_optional condition state after h = subst (λ ps. Gives r (match_clause s is_optional (map path_view ps) condition state) after) is h

  names_on : (names : List (List ℕ)) → IfOk r (λ t. (seen t).names ≡ add_path_names (map path_view lent) names) → IfOk r (λ t. (seen t).names ≡ add_path_names (map path_view paths) names)
  names_on names h = subst (λ ps. IfOk r (λ t. (seen t).names ≡ add_path_names (map path_view ps) names)) is h

pub match_rows-requires : goal.match_rows-requires
match_rows-requires g c =
    let planned = subst (λ k. ArePlanned c.args.table.names (clause_view k) (anchors_view c.args.anchors.now)) c.in-Match.is c.requires.planned in
    sym (length-map c.args.anchors.now anchor_view) ∙ AllZip-long _ _ _ planned ∙ length-map c.in-Match.paths.items path_view ∙ sym (ap length c.deref.ensures.value)

pub returns-in-Match-clause-gives : goal.returns-in-Match-clause-gives
returns-in-Match-clause-gives g c =
    let s = setting_of (parameters_view c.args.query.now.parameters.now) c.args.meter.now.limit c.args.query.now.max_elements c.args.table.names (anchors_view c.args.anchors.now) in
    on_graph c.args.clause.now _ c.in-Match.is c.match_rows.result s (seen c.args.table) c.args.meter.now.used c.match_rows.new.meter.used c.graph.result _ c.graph.ensures.is
    (on_paths _ _ c.deref.ensures.value c.match_rows.result s _ _ _ _
    (c.match_rows.ensures.gives s (suits_own (parameters_view c.args.query.now.parameters.now) c.args.meter.now.limit c.args.query.now.max_elements c.args.table.names (anchors_view c.args.anchors.now)) refl))

pub returns-in-Match-clause-names : goal.returns-in-Match-clause-names
returns-in-Match-clause-names g c = named_of c.args.clause.now _ c.in-Match.is c.match_rows.result c.args.table.names (names_on _ _ c.deref.ensures.value c.match_rows.result c.args.table.names c.match_rows.ensures.names)

pub returns-in-Match-clause-limit : goal.returns-in-Match-clause-limit
returns-in-Match-clause-limit g c = c.match_rows.ensures.limit

pub returns-in-Match-clause-aside : goal.returns-in-Match-clause-aside
returns-in-Match-clause-aside g c = refl

pub returns-in-Unwind-clause-gives : goal.returns-in-Unwind-clause-gives
returns-in-Unwind-clause-gives g c =
    let s = setting_of (parameters_view c.args.query.now.parameters.now) c.args.meter.now.limit c.args.query.now.max_elements c.args.table.names (anchors_view c.args.anchors.now) in
    on_graph c.args.clause.now _ c.in-Unwind.is c.unwind_rows.result s (seen c.args.table) c.args.meter.now.used c.unwind_rows.new.meter.used c.graph-in-Unwind.result _ c.graph-in-Unwind.ensures.is
    (c.unwind_rows.ensures.unwinds s (suits_own (parameters_view c.args.query.now.parameters.now) c.args.meter.now.limit c.args.query.now.max_elements c.args.table.names (anchors_view c.args.anchors.now)))

pub returns-in-Unwind-clause-names : goal.returns-in-Unwind-clause-names
returns-in-Unwind-clause-names g c = named_of c.args.clause.now _ c.in-Unwind.is c.unwind_rows.result c.args.table.names c.unwind_rows.ensures.names

pub returns-in-Unwind-clause-limit : goal.returns-in-Unwind-clause-limit
returns-in-Unwind-clause-limit g c = c.unwind_rows.ensures.limit

pub returns-in-Unwind-clause-aside : goal.returns-in-Unwind-clause-aside
returns-in-Unwind-clause-aside g c = refl

pub returns-in-With-clause-gives : goal.returns-in-With-clause-gives
returns-in-With-clause-gives g c =
    let s = setting_of (parameters_view c.args.query.now.parameters.now) c.args.meter.now.limit c.args.query.now.max_elements c.args.table.names (anchors_view c.args.anchors.now) in
    on_graph c.args.clause.now _ c.in-With.is c.project_with.result s (seen c.args.table) c.args.meter.now.used c.project_with.new.meter.used c.graph-in-With.result _ c.graph-in-With.ensures.is
    (c.project_with.ensures.gives s (suits_own (parameters_view c.args.query.now.parameters.now) c.args.meter.now.limit c.args.query.now.max_elements c.args.table.names (anchors_view c.args.anchors.now)))

pub returns-in-With-clause-names : goal.returns-in-With-clause-names
returns-in-With-clause-names g c = named_of c.args.clause.now _ c.in-With.is c.project_with.result c.args.table.names c.project_with.ensures.names

pub returns-in-With-clause-limit : goal.returns-in-With-clause-limit
returns-in-With-clause-limit g c = c.project_with.ensures.limit

pub returns-in-With-clause-aside : goal.returns-in-With-clause-aside
returns-in-With-clause-aside g c = refl

pub returns-in-Return-clause-gives : goal.returns-in-Return-clause-gives
returns-in-Return-clause-gives g c =
    let s = setting_of (parameters_view c.args.query.now.parameters.now) c.args.meter.now.limit c.args.query.now.max_elements c.args.table.names (anchors_view c.args.anchors.now) in
    on_graph c.args.clause.now _ c.in-Return.is c.project_return.result s (seen c.args.table) c.args.meter.now.used c.project_return.new.meter.used c.graph-in-Return.result _ c.graph-in-Return.ensures.is
    (c.project_return.ensures.gives s (suits_own (parameters_view c.args.query.now.parameters.now) c.args.meter.now.limit c.args.query.now.max_elements c.args.table.names (anchors_view c.args.anchors.now)))

pub returns-in-Return-clause-names : goal.returns-in-Return-clause-names
returns-in-Return-clause-names g c = named_of c.args.clause.now _ c.in-Return.is c.project_return.result c.args.table.names c.project_return.ensures.names

pub returns-in-Return-clause-limit : goal.returns-in-Return-clause-limit
returns-in-Return-clause-limit g c = c.project_return.ensures.limit

pub returns-in-Return-clause-aside : goal.returns-in-Return-clause-aside
returns-in-Return-clause-aside g c = refl

pub returns-in-Create-clause-gives : goal.returns-in-Create-clause-gives
returns-in-Create-clause-gives g c =
    let s = setting_of (parameters_view c.args.query.now.parameters.now) c.args.meter.now.limit c.args.query.now.max_elements c.args.table.names (anchors_view c.args.anchors.now) in
    given_of c.args.clause.now _ c.in-Create.is c.create_paths.result s (state_of c.args.live.now.graph (seen c.args.table) c.args.meter.now.used) _
    (c.create_paths.ensures.gives s (suits_own (parameters_view c.args.query.now.parameters.now) c.args.meter.now.limit c.args.query.now.max_elements c.args.table.names (anchors_view c.args.anchors.now)) refl)

pub returns-in-Create-clause-names : goal.returns-in-Create-clause-names
returns-in-Create-clause-names g c = named_of c.args.clause.now _ c.in-Create.is c.create_paths.result c.args.table.names c.create_paths.ensures.names

pub returns-in-Create-clause-limit : goal.returns-in-Create-clause-limit
returns-in-Create-clause-limit g c = c.create_paths.ensures.limit

pub returns-in-Create-clause-aside : goal.returns-in-Create-clause-aside
returns-in-Create-clause-aside g c = c.create_paths.ensures.aside

pub returns-in-Merge-clause-gives : goal.returns-in-Merge-clause-gives
returns-in-Merge-clause-gives g c =
    let s = setting_of (parameters_view c.args.query.now.parameters.now) c.args.meter.now.limit c.args.query.now.max_elements c.args.table.names (anchors_view c.args.anchors.now) in
    given_of c.args.clause.now _ c.in-Merge.is c.merge_path.result s (state_of c.args.live.now.graph (seen c.args.table) c.args.meter.now.used) _
    (c.merge_path.ensures.gives s (suits_own (parameters_view c.args.query.now.parameters.now) c.args.meter.now.limit c.args.query.now.max_elements c.args.table.names (anchors_view c.args.anchors.now)) refl refl)

pub returns-in-Merge-clause-names : goal.returns-in-Merge-clause-names
returns-in-Merge-clause-names g c = named_of c.args.clause.now _ c.in-Merge.is c.merge_path.result c.args.table.names c.merge_path.ensures.names

pub returns-in-Merge-clause-limit : goal.returns-in-Merge-clause-limit
returns-in-Merge-clause-limit g c = c.merge_path.ensures.limit

pub returns-in-Merge-clause-aside : goal.returns-in-Merge-clause-aside
returns-in-Merge-clause-aside g c = c.merge_path.ensures.aside

pub returns-in_err-set_items-in-Set-clause-gives : goal.returns-in_err-set_items-in-Set-clause-gives
returns-in_err-set_items-in-Set-clause-gives g c =
    let s = setting_of (parameters_view c.args.query.now.parameters.now) c.args.meter.now.limit c.args.query.now.max_elements c.args.table.names (anchors_view c.args.anchors.now) in
    given_of c.args.clause.now _ c.in-Set.is c.from_residual.result s (state_of c.args.live.now.graph (seen c.args.table) c.args.meter.now.used) _
    (gives_fault c.from_residual.result _ _ _ c.from_residual.ensures.1 (c.in_err-set_items-in-Set.ensures.answer s (suits_own (parameters_view c.args.query.now.parameters.now) c.args.meter.now.limit c.args.query.now.max_elements c.args.table.names (anchors_view c.args.anchors.now))).err)

pub returns-in_err-set_items-in-Set-clause-names : goal.returns-in_err-set_items-in-Set-clause-names
returns-in_err-set_items-in-Set-clause-names g c = IfOk-from_err c.from_residual.result (λ t. (seen t).names ≡ scope_after c.args.table.names (clause_view c.args.clause.now)) c.from_residual.ensures.0

pub returns-in_err-set_items-in-Set-clause-limit : goal.returns-in_err-set_items-in-Set-clause-limit
returns-in_err-set_items-in-Set-clause-limit g c = c.set_items.ensures.limit

pub returns-in_err-set_items-in-Set-clause-aside : goal.returns-in_err-set_items-in-Set-clause-aside
returns-in_err-set_items-in-Set-clause-aside g c = c.set_items.ensures.aside

pub returns-in_ok-set_items-in-Set-clause-gives : goal.returns-in_ok-set_items-in-Set-clause-gives
returns-in_ok-set_items-in-Set-clause-gives g c =
    let s = setting_of (parameters_view c.args.query.now.parameters.now) c.args.meter.now.limit c.args.query.now.max_elements c.args.table.names (anchors_view c.args.anchors.now) in
    given_of c.args.clause.now _ c.in-Set.is (Ok c.args.table) s (state_of c.args.live.now.graph (seen c.args.table) c.args.meter.now.used) _
    (record { ok = (c.in_ok-set_items-in-Set.ensures.answer s (suits_own (parameters_view c.args.query.now.parameters.now) c.args.meter.now.limit c.args.query.now.max_elements c.args.table.names (anchors_view c.args.anchors.now))).ok; err = tt })

pub returns-in_ok-set_items-in-Set-clause-names : goal.returns-in_ok-set_items-in-Set-clause-names
returns-in_ok-set_items-in-Set-clause-names g c = named_of c.args.clause.now _ c.in-Set.is (Ok c.args.table) c.args.table.names refl

pub returns-in_ok-set_items-in-Set-clause-limit : goal.returns-in_ok-set_items-in-Set-clause-limit
returns-in_ok-set_items-in-Set-clause-limit g c = c.set_items.ensures.limit

pub returns-in_ok-set_items-in-Set-clause-aside : goal.returns-in_ok-set_items-in-Set-clause-aside
returns-in_ok-set_items-in-Set-clause-aside g c = c.set_items.ensures.aside

pub returns-in_err-remove_items-in-Remove-clause-gives : goal.returns-in_err-remove_items-in-Remove-clause-gives
returns-in_err-remove_items-in-Remove-clause-gives g c =
    let s = setting_of (parameters_view c.args.query.now.parameters.now) c.args.meter.now.limit c.args.query.now.max_elements c.args.table.names (anchors_view c.args.anchors.now) in
    given_of c.args.clause.now _ c.in-Remove.is c.from_residual-in_err-remove_items-in-Remove.result s (state_of c.args.live.now.graph (seen c.args.table) c.args.meter.now.used) _
    (gives_fault c.from_residual-in_err-remove_items-in-Remove.result _ _ _ c.from_residual-in_err-remove_items-in-Remove.ensures.1 (c.in_err-remove_items-in-Remove.ensures.answer s (suits_own (parameters_view c.args.query.now.parameters.now) c.args.meter.now.limit c.args.query.now.max_elements c.args.table.names (anchors_view c.args.anchors.now))).err)

pub returns-in_err-remove_items-in-Remove-clause-names : goal.returns-in_err-remove_items-in-Remove-clause-names
returns-in_err-remove_items-in-Remove-clause-names g c = IfOk-from_err c.from_residual-in_err-remove_items-in-Remove.result (λ t. (seen t).names ≡ scope_after c.args.table.names (clause_view c.args.clause.now)) c.from_residual-in_err-remove_items-in-Remove.ensures.0

pub returns-in_err-remove_items-in-Remove-clause-limit : goal.returns-in_err-remove_items-in-Remove-clause-limit
returns-in_err-remove_items-in-Remove-clause-limit g c = c.remove_items.ensures.limit

pub returns-in_err-remove_items-in-Remove-clause-aside : goal.returns-in_err-remove_items-in-Remove-clause-aside
returns-in_err-remove_items-in-Remove-clause-aside g c = c.remove_items.ensures.aside

pub returns-in_ok-remove_items-in-Remove-clause-gives : goal.returns-in_ok-remove_items-in-Remove-clause-gives
returns-in_ok-remove_items-in-Remove-clause-gives g c =
    let s = setting_of (parameters_view c.args.query.now.parameters.now) c.args.meter.now.limit c.args.query.now.max_elements c.args.table.names (anchors_view c.args.anchors.now) in
    given_of c.args.clause.now _ c.in-Remove.is (Ok c.args.table) s (state_of c.args.live.now.graph (seen c.args.table) c.args.meter.now.used) _
    (record { ok = (c.in_ok-remove_items-in-Remove.ensures.answer s (suits_own (parameters_view c.args.query.now.parameters.now) c.args.meter.now.limit c.args.query.now.max_elements c.args.table.names (anchors_view c.args.anchors.now))).ok; err = tt })

pub returns-in_ok-remove_items-in-Remove-clause-names : goal.returns-in_ok-remove_items-in-Remove-clause-names
returns-in_ok-remove_items-in-Remove-clause-names g c = named_of c.args.clause.now _ c.in-Remove.is (Ok c.args.table) c.args.table.names refl

pub returns-in_ok-remove_items-in-Remove-clause-limit : goal.returns-in_ok-remove_items-in-Remove-clause-limit
returns-in_ok-remove_items-in-Remove-clause-limit g c = c.remove_items.ensures.limit

pub returns-in_ok-remove_items-in-Remove-clause-aside : goal.returns-in_ok-remove_items-in-Remove-clause-aside
returns-in_ok-remove_items-in-Remove-clause-aside g c = c.remove_items.ensures.aside

pub returns-in-Delete-clause-gives : goal.returns-in-Delete-clause-gives
returns-in-Delete-clause-gives g c =
    let s = setting_of (parameters_view c.args.query.now.parameters.now) c.args.meter.now.limit c.args.query.now.max_elements c.args.table.names (anchors_view c.args.anchors.now) in
    given_of c.args.clause.now _ c.in-Delete.is c.delete_elements.result s (state_of c.args.live.now.graph (seen c.args.table) c.args.meter.now.used) _
    (c.delete_elements.ensures.gives s (suits_own (parameters_view c.args.query.now.parameters.now) c.args.meter.now.limit c.args.query.now.max_elements c.args.table.names (anchors_view c.args.anchors.now)))

pub returns-in-Delete-clause-names : goal.returns-in-Delete-clause-names
returns-in-Delete-clause-names g c = named_of c.args.clause.now _ c.in-Delete.is c.delete_elements.result c.args.table.names c.delete_elements.ensures.names

pub returns-in-Delete-clause-limit : goal.returns-in-Delete-clause-limit
returns-in-Delete-clause-limit g c = c.delete_elements.ensures.limit

pub returns-in-Delete-clause-aside : goal.returns-in-Delete-clause-aside
returns-in-Delete-clause-aside g c = c.delete_elements.ensures.aside
