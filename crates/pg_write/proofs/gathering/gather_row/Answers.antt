use Rattle.std.proofs.Common.{◌≡◌, map, Ok, refl, ap, ◌∙◌}
use Rattle.std.proofs.lemmas.Result.{IfOk-from_err}
use Rattle.pg_expr.proofs.ExitLemmas.{fault_passed}
use Rattle.pg_expr.specs.Prepared.{tree_of}
use Rattle.pg_meaning.specs.Answer.{◌>>=◌}
use Rattle.pg_write.proofs.StepLemmas.{next, fault, done}
use Rattle.pg_write.specs.Gathered.{put_given, put_row, put_value}
use Rattle.pg_write_make.specs.Scenes.{parameters_in, row_in}
use Rattle.pg_write.proofs.gathering.gather_row.Goals as goal

pub loop-element-init : goal.loop-element-init
loop-element-init g c = refl

pub loop-element-preserved : goal.loop-element-preserved
loop-element-preserved g c =
    let scene = c.args.scene.now in
    let graph = c.args.graph.now in
    let row = row_in scene c.args.row.now in
    let elements = c.args.elements.now.items in
    let l = c.loop-element in
    next (put_given (parameters_in scene) graph row) (tree_of scene.names.now) elements c.deref-element-items.result.now c.deref-element-items.ensures.value l.element-index
    (put_row (parameters_in scene) graph (map (tree_of scene.names.now) elements) c.args.doomed.now row) l.doomed l.invariant
    c.element-item.result c.loop-element-test.true c.element-item.is c.put_value.new.self
    (ap (λ r. r >>= put_value graph l.doomed) c.in_ok-value.ensures.ok ∙ c.in_ok-put_value.ensures.ok)

pub returns-in_err-value : goal.returns-in_err-value
returns-in_err-value g c =
    let scene = c.args.scene.now in
    let graph = c.args.graph.now in
    let row = row_in scene c.args.row.now in
    let elements = c.args.elements.now.items in
    let l = c.loop-element in
    let given = put_row (parameters_in scene) graph (map (tree_of scene.names.now) elements) c.args.doomed.now row in
    record {
      ok = IfOk-from_err c.from_residual.result (λ u. given ≡ Ok l.doomed) c.from_residual.ensures.0;
      err =
          fault_passed given c.in_err-value.field-0.0 c.from_residual.result c.from_residual.ensures.1
          (λ other. fault (put_given (parameters_in scene) graph row) (tree_of scene.names.now) elements c.deref-element-items.result.now c.deref-element-items.ensures.value l.element-index
          given l.doomed l.invariant c.element-item.result c.loop-element-test.true c.element-item.is c.in_err-value.field-0.0 (ap (λ r. r >>= put_value graph l.doomed) (c.in_err-value.ensures.err other)));
    }

pub returns-in_err-put_value : goal.returns-in_err-put_value
returns-in_err-put_value g c =
    let scene = c.args.scene.now in
    let graph = c.args.graph.now in
    let row = row_in scene c.args.row.now in
    let elements = c.args.elements.now.items in
    let l = c.loop-element in
    let given = put_row (parameters_in scene) graph (map (tree_of scene.names.now) elements) c.args.doomed.now row in
    let result = c.from_residual-in_err-put_value in
    record {
      ok = IfOk-from_err result.result (λ u. given ≡ Ok c.put_value.new.self) result.ensures.0;
      err =
          fault_passed given c.in_err-put_value.field-0.0 result.result result.ensures.1
          (λ other. fault (put_given (parameters_in scene) graph row) (tree_of scene.names.now) elements c.deref-element-items.result.now c.deref-element-items.ensures.value l.element-index
          given l.doomed l.invariant c.element-item.result c.loop-element-test.true c.element-item.is c.in_err-put_value.field-0.0
          (ap (λ r. r >>= put_value graph l.doomed) c.in_ok-value.ensures.ok ∙ c.in_err-put_value.ensures.err other));
    }

pub returns : goal.returns
returns g c =
    let scene = c.args.scene.now in
    let graph = c.args.graph.now in
    let row = row_in scene c.args.row.now in
    let elements = c.args.elements.now.items in
    let l = c.loop-element in
    record {
      ok =
          done (put_given (parameters_in scene) graph row) (tree_of scene.names.now) elements c.deref-element-items.result.now c.deref-element-items.ensures.value l.element-index
          (put_row (parameters_in scene) graph (map (tree_of scene.names.now) elements) c.args.doomed.now row) l.doomed l.invariant c.loop-element-test.false;
      err = tt;
    }
