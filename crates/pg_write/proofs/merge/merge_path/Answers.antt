use Rattle.std.proofs.Common.{◌≡◌, ◌∷◌, [], Ok, Err, length, map, take, refl, sym, ap, ◌∙◌}
use Rattle.std.proofs.lemmas.Result.{IfOk-from_err, err_from_is_err_and}
use Rattle.pg_match.proofs.Found.{rows_wide}
use Rattle.pg_match_bindings.specs.Parts.{parts_of}
use Rattle.pg_match_stages.specs.View.{anchor_view}
use Rattle.pg_meaning.specs.Patterns.{add_path_names}
use Rattle.pg_meaning.specs.Updates.{count_new}
use Rattle.pg_rows.specs.States.{seen, state_of}
use Rattle.pg_rows.specs.Tables.{table}
use Rattle.pg_syntax_tree.specs.View.{on_view, path_view}
use Rattle.pg_value_core.specs.Given.{parameters_view}
use Rattle.pg_write.proofs.ExitLemmas.{gives_fault}
use Rattle.pg_write.proofs.MergeClauseLemmas.{clause_is, first_kept, not_fewer}
use Rattle.pg_write.proofs.ReadyLemmas.{said_err, said_ok}
use Rattle.pg_write.proofs.merge.merge_path.Goals as goal

pub prepare-requires : goal.prepare-requires
prepare-requires g c =
    let p = path_view c.args.merge.now.path.now in
    let names = c.split-names.result.0 in
    let after = c.bind_names.new.names in
    let is : after ≡ add_path_names (p ∷ []) names = c.in_ok-bindings.ensures.names ∙ ap (λ ps. add_path_names (map path_view ps) names) c.from_ref-2.ensures.value in
    let kept : take c.len-bound.result after ≡ names = first_kept p names after c.len-bound.result is c.len-bound.ensures in
    record {
      within = not_fewer p names after c.len-bound.result is c.len-bound.ensures;
      names = ap (add_path_names (p ∷ [])) kept ∙ sym is;
      parts = c.in_ok-bindings.ensures.parts ∙ (λ i. parts_of (sym kept i) (map path_view (c.from_ref-2.ensures.value i)));
      count = c.in_ok-count.ensures ∙ (λ i. count_new (sym kept i) (map path_view (c.from_ref.ensures.value i)));
      anchors = c.requires.anchors;
    }

pub merge_rows-requires : goal.merge_rows-requires
merge_rows-requires g c =
    let means = c.in_ok-merging.ensures.means in
    record {
      ready = c.in_ok-merging.ensures.ready;
      bound = c.split-names.ensures.width ∙ ap length (sym c.split-names.ensures.names) ∙ sym c.len-bound.ensures ∙ sym means.bound_is;
    }

pub returns-in_err-merging-clause-gives : goal.returns-in_err-merging-clause-gives
returns-in_err-merging-clause-gives g c = λ s suits most at. gives_fault c.from_residual-in_err-merging.result _ _ _ c.from_residual-in_err-merging.ensures.1 (λ other. absurd (other refl))

pub returns-in_err-merging-clause-aside : goal.returns-in_err-merging-clause-aside
returns-in_err-merging-clause-aside g c = refl

pub returns-in_err-merging-clause-limit : goal.returns-in_err-merging-clause-limit
returns-in_err-merging-clause-limit g c = refl

pub returns-in_err-merging-clause-names : goal.returns-in_err-merging-clause-names
returns-in_err-merging-clause-names g c = IfOk-from_err c.from_residual-in_err-merging.result _ c.from_residual-in_err-merging.ensures.0

pub returns-in_err-merged-clause-gives : goal.returns-in_err-merged-clause-gives
returns-in_err-merged-clause-gives g c = λ s suits most at.
    let e = err_from_is_err_and c.from_residual-in_err-merged.result c.from_residual-in_err-merged.ensures.1 in
    let p = path_view c.args.merge.now.path.now in
    let graph = c.args.live.now.graph in
    let names = c.split-names.result.0 in
    let after = c.bind_names.new.names in
    let is : after ≡ add_path_names (p ∷ []) names = c.in_ok-bindings.ensures.names ∙ ap (λ ps. add_path_names (map path_view ps) names) c.from_ref-2.ensures.value in
    let kept : take c.len-bound.result after ≡ names = first_kept p names after c.len-bound.result is c.len-bound.ensures in
    let whole =
    clause_is s p (map on_view c.args.merge.now.items.now.items) graph (seen c.args.table) c.args.meter.now.used (parameters_view c.args.query.now.parameters.now) c.args.meter.now.limit c.args.query.now.max_elements (map anchor_view c.args.merge.now.anchors.now) after names (table c.split-names.result.1)
    suits.parameters_are suits.steps_are most suits.scope_is at c.split-names.ensures.names (ap (λ k. take k after) (sym c.len-bound.ensures) ∙ kept)
    (rows_wide c.split-names.result.1 (length names) (c.split-names.ensures.width ∙ ap length (sym c.split-names.ensures.names))) c.split-names.ensures.rows (take c.len-bound.result after) kept in
    rw (e.1, e.2) (record { ok = tt; err = λ other. whole ∙ said_err _ _ after c.len-bound.result c.in_ok-merging.merging c.in_ok-merging.ensures.means c.args.meter.now.limit graph c.args.meter.now.used (table c.split-names.result.1) (Err c.in_err-merged.field-0.0) c.in_err-merged.ensures.err other })

pub returns-clause-gives : goal.returns-clause-gives
returns-clause-gives g c = λ s suits most at.
    let p = path_view c.args.merge.now.path.now in
    let graph = c.args.live.now.graph in
    let names = c.split-names.result.0 in
    let after = c.bind_names.new.names in
    let is : after ≡ add_path_names (p ∷ []) names = c.in_ok-bindings.ensures.names ∙ ap (λ ps. add_path_names (map path_view ps) names) c.from_ref-2.ensures.value in
    let kept : take c.len-bound.result after ≡ names = first_kept p names after c.len-bound.result is c.len-bound.ensures in
    let whole =
    clause_is s p (map on_view c.args.merge.now.items.now.items) graph (seen c.args.table) c.args.meter.now.used (parameters_view c.args.query.now.parameters.now) c.args.meter.now.limit c.args.query.now.max_elements (map anchor_view c.args.merge.now.anchors.now) after names (table c.split-names.result.1)
    suits.parameters_are suits.steps_are most suits.scope_is at c.split-names.ensures.names (ap (λ k. take k after) (sym c.len-bound.ensures) ∙ kept)
    (rows_wide c.split-names.result.1 (length names) (c.split-names.ensures.width ∙ ap length (sym c.split-names.ensures.names))) c.split-names.ensures.rows (take c.len-bound.result after) kept in
    record {
      ok = whole ∙ said_ok _ _ after c.len-bound.result c.in_ok-merging.merging c.in_ok-merging.ensures.means c.args.meter.now.limit graph c.args.meter.now.used (table c.split-names.result.1) c.merge_rows.new.live.graph c.merge_rows.new.meter.used (Ok c.in_ok-merged.merged) c.in_ok-merged.ensures.ok ∙ ap (λ t. Ok (state_of c.merge_rows.new.live.graph t c.merge_rows.new.meter.used)) (sym c.new.ensures);
      err = tt;
    }

pub returns-in_err-count-clause-gives : goal.returns-in_err-count-clause-gives
returns-in_err-count-clause-gives g c = λ s suits most at. gives_fault c.from_residual.result _ _ _ c.from_residual.ensures.1 (λ other. absurd (other refl))

pub returns-in_err-count-clause-aside : goal.returns-in_err-count-clause-aside
returns-in_err-count-clause-aside g c = refl

pub returns-in_err-count-clause-limit : goal.returns-in_err-count-clause-limit
returns-in_err-count-clause-limit g c = refl

pub returns-in_err-bindings-clause-gives : goal.returns-in_err-bindings-clause-gives
returns-in_err-bindings-clause-gives g c = λ s suits most at. gives_fault c.from_residual-in_err-bindings.result _ _ _ c.from_residual-in_err-bindings.ensures.1 (λ other. absurd (other refl))

pub returns-in_err-bindings-clause-aside : goal.returns-in_err-bindings-clause-aside
returns-in_err-bindings-clause-aside g c = refl

pub returns-in_err-bindings-clause-limit : goal.returns-in_err-bindings-clause-limit
returns-in_err-bindings-clause-limit g c = refl

pub returns-in_err-merged-clause-aside : goal.returns-in_err-merged-clause-aside
returns-in_err-merged-clause-aside g c = c.merge_rows.ensures.aside

pub returns-in_err-merged-clause-limit : goal.returns-in_err-merged-clause-limit
returns-in_err-merged-clause-limit g c = c.merge_rows.ensures.limit

pub returns-clause-aside : goal.returns-clause-aside
returns-clause-aside g c = c.merge_rows.ensures.aside

pub returns-clause-limit : goal.returns-clause-limit
returns-clause-limit g c = c.merge_rows.ensures.limit

pub returns-in_err-count-clause-names : goal.returns-in_err-count-clause-names
returns-in_err-count-clause-names g c = IfOk-from_err c.from_residual.result _ c.from_residual.ensures.0

pub returns-in_err-bindings-clause-names : goal.returns-in_err-bindings-clause-names
returns-in_err-bindings-clause-names g c = IfOk-from_err c.from_residual-in_err-bindings.result _ c.from_residual-in_err-bindings.ensures.0

pub returns-in_err-merged-clause-names : goal.returns-in_err-merged-clause-names
returns-in_err-merged-clause-names g c = IfOk-from_err c.from_residual-in_err-merged.result _ c.from_residual-in_err-merged.ensures.0
