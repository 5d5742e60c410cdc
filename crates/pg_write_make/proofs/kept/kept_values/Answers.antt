use Rattle.std.proofs.Common.{◌+◌, List, [], ◌∷◌, ◌++◌, map, drop, refl, sym, ap}
use Rattle.std.proofs.lemmas.Result.{IfOk-from_err}
use Rattle.pg_meaning.specs.declared.fault.Fault.TheVariants.{OutOfMemory}
use Rattle.pg_syntax_tree.specs.declared.patterns.PathPattern.{PathPattern}
use Rattle.pg_write_make.proofs.TurnLemmas.{all_made, memory_alone, one_further, seen_pushed}
use Rattle.pg_write_make.specs.Lent.{kept_view, paths_view}
use Rattle.pg_write_make.specs.Outcomes.{Outcomes, path_outcomes}
use Rattle.pg_write_make.specs.Scenes.{row_in, parameters_in, reading}
use Rattle.pg_write_make.proofs.kept.kept_values.Goals as goal

pub loop-path-preserved : goal.loop-path-preserved
loop-path-preserved g c =
    let ps = c.args.paths.now in
    let i = c.loop-path.path-index in
    let given = path_outcomes (reading (parameters_in c.args.scene.now)) c.args.graph.now (row_in c.args.scene.now c.args.row.now) in
    let left : List PathPattern → List Outcomes = λ ys. map given (paths_view ys) in
    let made = c.in_ok-kept_of.field-0 in
    sym (one_further ps ps i c.path-item.result refl c.path-item.is c.loop-path-test.true
    left (left ps) (map kept_view c.loop-path.kept.items) (map kept_view c.push.new.self.items) (kept_view made ∷ [])
    (ap (λ (o : Outcomes). o ∷ left (drop (i + 1) ps)) (sym c.in_ok-kept_of.ensures.ok))
    (seen_pushed kept_view c.loop-path.kept.items c.push.new.self.items made c.in_ok-push.ensures.items)
    (sym c.loop-path.invariant))

pub loop-path-init : goal.loop-path-init
loop-path-init g c = ap (λ ks. map kept_view ks ++ map (path_outcomes (reading (parameters_in c.args.scene.now)) c.args.graph.now (row_in c.args.scene.now c.args.row.now)) (paths_view c.args.paths.now)) c.in_ok-kept.ensures.items

pub returns-in_err-kept-clause-ok : goal.returns-in_err-kept-clause-ok
returns-in_err-kept-clause-ok g c = IfOk-from_err c.from_residual.result _ c.from_residual.ensures.0

pub returns-in_err-kept-clause-err : goal.returns-in_err-kept-clause-err
returns-in_err-kept-clause-err g c = memory_alone OutOfMemory c.from_residual.result c.from_residual.ensures.1 refl

pub returns-in_err-kept_of-clause-ok : goal.returns-in_err-kept_of-clause-ok
returns-in_err-kept_of-clause-ok g c = IfOk-from_err c.from_residual-in_err-kept_of.result _ c.from_residual-in_err-kept_of.ensures.0

pub returns-in_err-kept_of-clause-err : goal.returns-in_err-kept_of-clause-err
returns-in_err-kept_of-clause-err g c = memory_alone c.in_err-kept_of.field-0.0 c.from_residual-in_err-kept_of.result c.from_residual-in_err-kept_of.ensures.1 c.in_err-kept_of.ensures.err

pub returns-in_err-push-clause-ok : goal.returns-in_err-push-clause-ok
returns-in_err-push-clause-ok g c = IfOk-from_err c.from_residual-in_err-push.result _ c.from_residual-in_err-push.ensures.0

pub returns-in_err-push-clause-err : goal.returns-in_err-push-clause-err
returns-in_err-push-clause-err g c = memory_alone OutOfMemory c.from_residual-in_err-push.result c.from_residual-in_err-push.ensures.1 refl

pub returns-clause-ok : goal.returns-clause-ok
returns-clause-ok g c =
    let ps = c.args.paths.now in
    let given = path_outcomes (reading (parameters_in c.args.scene.now)) c.args.graph.now (row_in c.args.scene.now c.args.row.now) in
    all_made ps ps c.loop-path.path-index refl c.loop-path-test.false
    (λ (ys : List PathPattern). map given (paths_view ys)) (map kept_view c.loop-path.kept.items) (map given (paths_view ps)) refl c.loop-path.invariant
