use Rattle.std.proofs.Common.{List, ℕ, Ok, sym, ap, subst, ◌∙◌, refl}
use Rattle.std.proofs.lemmas.Result.{err_from_is_err_and, IfOk-from_err}
use Rattle.pg_expr.proofs.ExitLemmas.{fault_passed}
use Rattle.pg_meaning.specs.declared.fault.Fault.TheVariants.{OutOfMemory}
use Rattle.pg_write_make.proofs.BoundLemmas.{pushed_id}
use Rattle.pg_write_make.proofs.GrowthLemmas.{there_grows, there_push}
use Rattle.pg_write_make.specs.Makings.{making_with, node_ids, AreThere}
use Rattle.pg_write_make.specs.Scenes.{row_at}
use Rattle.pg_write_make.proofs.making.make_node.Goals as goal

pub place_node-requires-clause-tested : goal.place_node-requires-clause-tested
place_node-requires-clause-tested g c = c.requires.tested

pub place_node-requires-clause-there : goal.place_node-requires-clause-there
place_node-requires-clause-there g c = c.requires.there.bound

pub returns-in_err-id-clause-ok : goal.returns-in_err-id-clause-ok
returns-in_err-id-clause-ok g c = IfOk-from_err c.from_residual.result _ c.from_residual.ensures.0

pub returns-in_err-id-clause-err : goal.returns-in_err-id-clause-err
returns-in_err-id-clause-err g c =
    let p = err_from_is_err_and c.from_residual.result c.from_residual.ensures.1 in
    rw (p.1, p.2) (λ other. c.in_err-id.ensures.err other (node_ids c.args.ids.now.items))

pub returns-in_err-id-clause-aside : goal.returns-in_err-id-clause-aside
returns-in_err-id-clause-aside g c = c.place_node.ensures.aside

pub returns-in_err-id-clause-grows : goal.returns-in_err-id-clause-grows
returns-in_err-id-clause-grows g c = IfOk-from_err c.from_residual.result _ c.from_residual.ensures.0

pub returns-in_err-id-clause-there : goal.returns-in_err-id-clause-there
returns-in_err-id-clause-there g c = IfOk-from_err c.from_residual.result _ c.from_residual.ensures.0

pub returns-in_err-push-clause-ok : goal.returns-in_err-push-clause-ok
returns-in_err-push-clause-ok g c = IfOk-from_err c.from_residual-in_err-push.result _ c.from_residual-in_err-push.ensures.0

pub returns-in_err-push-clause-err : goal.returns-in_err-push-clause-err
returns-in_err-push-clause-err g c = fault_passed _ OutOfMemory c.from_residual-in_err-push.result c.from_residual-in_err-push.ensures.1 (λ other. absurd (other refl))

pub returns-in_err-push-clause-aside : goal.returns-in_err-push-clause-aside
returns-in_err-push-clause-aside g c = c.place_node.ensures.aside

pub returns-in_err-push-clause-grows : goal.returns-in_err-push-clause-grows
returns-in_err-push-clause-grows g c = IfOk-from_err c.from_residual-in_err-push.result _ c.from_residual-in_err-push.ensures.0

pub returns-in_err-push-clause-there : goal.returns-in_err-push-clause-there
returns-in_err-push-clause-there g c = IfOk-from_err c.from_residual-in_err-push.result _ c.from_residual-in_err-push.ensures.0

pub returns-clause-ok : goal.returns-clause-ok
returns-clause-ok g c =
    c.in_ok-id.ensures.ok (node_ids c.args.ids.now.items)
    ∙ ap (λ (ns : List ℕ). Ok (making_with c.place_node.new.live.graph (row_at c.args.row.now) c.place_node.new.named.items ns)) (sym (pushed_id c.args.ids.now.items c.push.new.self.items c.in_ok-id.id c.in_ok-push.ensures.items))

pub returns-clause-err : goal.returns-clause-err
returns-clause-err g c = tt

pub returns-clause-aside : goal.returns-clause-aside
returns-clause-aside g c = c.place_node.ensures.aside

pub returns-clause-grows : goal.returns-clause-grows
returns-clause-grows g c = c.in_ok-id.ensures.grows

pub returns-clause-there : goal.returns-clause-there
returns-clause-there g c =
    let after = c.place_node.new.live.graph in
    let ids = node_ids c.args.ids.now.items in
    record {
      bound = c.in_ok-id.ensures.named;
      made = subst (λ (ns : List ℕ). AreThere after ns) (sym (pushed_id c.args.ids.now.items c.push.new.self.items c.in_ok-id.id c.in_ok-push.ensures.items)) (there_push after ids c.in_ok-id.id.0 (there_grows c.args.live.now.graph after ids c.in_ok-id.ensures.grows c.requires.there.made) c.in_ok-id.ensures.there);
    }
