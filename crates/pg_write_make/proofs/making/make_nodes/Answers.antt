use Rattle.std.proofs.Common.{Ok, Err, ◌∙◌}
use Rattle.std.proofs.lemmas.Result.{err_from_is_err_and}
use Rattle.pg_write_make.proofs.LoopLemmas.{first_is_tested, others_tested, none_yet, all_made, first_refused}
use Rattle.pg_write_make.proofs.GrowthLemmas.{grows_twice}
use Rattle.pg_write_make.specs.Makings.{making_of, outcomes_view}
use Rattle.pg_write_make.specs.Outcomes.{outcome_view}
use Rattle.pg_write_make.specs.Scenes.{max_elements_in, row_at}
use Rattle.pg_write_make.proofs.making.make_nodes.Goals as goal

pub make_node-requires-clause-tested : goal.make_node-requires-clause-tested
make_node-requires-clause-tested g c = first_is_tested c.args.live.now.graph (row_at c.args.row.now) c.args.path.now c.requires.tested

pub make_node-requires-clause-there : goal.make_node-requires-clause-there
make_node-requires-clause-there g c = none_yet c.args.live.now.graph c.args.named.now.items c.in_ok-ids.ids.items c.in_ok-ids.ensures.items c.requires.there

pub returns-in_err-make_node-clause-err : goal.returns-in_err-make_node-clause-err
returns-in_err-make_node-clause-err g c =
    let p = err_from_is_err_and c.from_residual-in_err-make_node.result c.from_residual-in_err-make_node.ensures.1 in
    rw (p.1, p.2) (λ other. first_refused (max_elements_in c.args.row.now.scene.now) (outcome_view c.args.first) (outcomes_view c.args.others.items) c.args.path.now c.args.live.now.graph (row_at c.args.row.now)
    c.args.named.now.items c.in_ok-ids.ids.items c.in_ok-ids.ensures.items c.in_err-make_node.field-0.0 (c.in_err-make_node.ensures.err other))

pub returns-in_err-make_node-clause-aside : goal.returns-in_err-make_node-clause-aside
returns-in_err-make_node-clause-aside g c = c.make_node.ensures.aside

pub returns-in_err-make_node-clause-grows : goal.returns-in_err-make_node-clause-grows
returns-in_err-make_node-clause-grows g c =
    let p = err_from_is_err_and c.from_residual-in_err-make_node.result c.from_residual-in_err-make_node.ensures.1 in
    rw p.1 tt

pub make_others-requires-clause-tested : goal.make_others-requires-clause-tested
make_others-requires-clause-tested g c =
    others_tested c.args.live.now.graph c.make_node.new.live.graph (row_at c.args.row.now) c.args.path.now c.in_ok-make_node.ensures.grows c.requires.tested

pub make_others-requires-clause-there : goal.make_others-requires-clause-there
make_others-requires-clause-there g c = c.in_ok-make_node.ensures.there

pub returns-in_err-make_others-clause-err : goal.returns-in_err-make_others-clause-err
returns-in_err-make_others-clause-err g c =
    let row = row_at c.args.row.now in
    let p = err_from_is_err_and c.from_residual-in_err-make_others.result c.from_residual-in_err-make_others.ensures.1 in
    rw (p.1, p.2) (λ other. all_made (max_elements_in c.args.row.now.scene.now) (outcome_view c.args.first) (outcomes_view c.args.others.items) c.args.path.now c.args.live.now.graph row
    c.args.named.now.items c.in_ok-ids.ids.items c.in_ok-ids.ensures.items (making_of c.make_node.new.live.graph row c.make_node.new.named.items c.make_node.new.ids.items)
    (Err c.in_err-make_others.field-0.0) c.in_ok-make_node.ensures.ok (c.in_err-make_others.ensures.err other))

pub returns-in_err-make_others-clause-aside : goal.returns-in_err-make_others-clause-aside
returns-in_err-make_others-clause-aside g c =
    c.make_others.ensures.aside ∙ c.make_node.ensures.aside

pub returns-in_err-make_others-clause-grows : goal.returns-in_err-make_others-clause-grows
returns-in_err-make_others-clause-grows g c =
    let p = err_from_is_err_and c.from_residual-in_err-make_others.result c.from_residual-in_err-make_others.ensures.1 in
    rw p.1 tt

pub returns-clause-ok : goal.returns-clause-ok
returns-clause-ok g c =
    let row = row_at c.args.row.now in
    all_made (max_elements_in c.args.row.now.scene.now) (outcome_view c.args.first) (outcomes_view c.args.others.items) c.args.path.now c.args.live.now.graph row
    c.args.named.now.items c.in_ok-ids.ids.items c.in_ok-ids.ensures.items (making_of c.make_node.new.live.graph row c.make_node.new.named.items c.make_node.new.ids.items)
    (Ok (making_of c.make_others.new.live.graph row c.make_others.new.named.items c.make_others.new.ids.items)) c.in_ok-make_node.ensures.ok c.in_ok-make_others.ensures.ok

pub returns-clause-aside : goal.returns-clause-aside
returns-clause-aside g c =
    c.make_others.ensures.aside ∙ c.make_node.ensures.aside

pub returns-clause-grows : goal.returns-clause-grows
returns-clause-grows g c =
    grows_twice c.args.live.now.graph c.make_node.new.live.graph c.make_others.new.live.graph
    c.in_ok-make_node.ensures.grows c.in_ok-make_others.ensures.grows

pub returns-clause-there : goal.returns-clause-there
returns-clause-there g c = c.in_ok-make_others.ensures.there
