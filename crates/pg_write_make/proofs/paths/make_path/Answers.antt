use Rattle.std.proofs.Common.{◌++◌, ◌∙◌}
use Rattle.std.proofs.lemmas.Result.{err_from_is_err_and}
use Rattle.pg_syntax_tree.specs.View.{path_view}
use Rattle.pg_write_make.proofs.GrowthLemmas.{grows_twice, there_grows}
use Rattle.pg_write_make.proofs.PathLemmas.{all_joined, bonds_failed, nodes_failed}
use Rattle.pg_write_make.specs.Lent.{kept_view}
use Rattle.pg_write_make.specs.Makings.{bindings, making_of, named_ids, relationship_ids}
use Rattle.pg_write_make.specs.Scenes.{max_elements_in, row_at}
use Rattle.pg_write_make.proofs.paths.make_path.Goals as goal

pub make_nodes-requires-clause-tested : goal.make_nodes-requires-clause-tested
make_nodes-requires-clause-tested g c = c.requires.tested

pub make_nodes-requires-clause-there : goal.make_nodes-requires-clause-there
make_nodes-requires-clause-there g c = c.requires.there

pub returns-in_err-nodes-clause-err : goal.returns-in_err-nodes-clause-err
returns-in_err-nodes-clause-err g c =
    let row = row_at c.args.row.now ++ bindings c.args.named.now.items in
    let p = err_from_is_err_and c.from_residual.result c.from_residual.ensures.1 in
    rw (p.1, p.2) (λ other. nodes_failed (max_elements_in c.args.row.now.scene.now) (kept_view c.args.kept) (path_view c.args.path.now) c.args.live.now.graph row c.in_err-nodes.field-0.0 (c.in_err-nodes.ensures.err other))

pub returns-in_err-nodes-clause-aside : goal.returns-in_err-nodes-clause-aside
returns-in_err-nodes-clause-aside g c = c.make_nodes.ensures.aside

pub returns-in_err-nodes-clause-grows : goal.returns-in_err-nodes-clause-grows
returns-in_err-nodes-clause-grows g c =
    let p = err_from_is_err_and c.from_residual.result c.from_residual.ensures.1 in
    rw p.1 tt

pub returns-in_err-nodes-clause-there : goal.returns-in_err-nodes-clause-there
returns-in_err-nodes-clause-there g c =
    let p = err_from_is_err_and c.from_residual.result c.from_residual.ensures.1 in
    rw p.1 tt

pub make_bonds-requires : goal.make_bonds-requires
make_bonds-requires g c = record { there = c.in_ok-nodes.ensures.there.made }

pub returns-in_err-relationships-clause-err : goal.returns-in_err-relationships-clause-err
returns-in_err-relationships-clause-err g c =
    let row = row_at c.args.row.now in
    let p = err_from_is_err_and c.from_residual-in_err-relationships.result c.from_residual-in_err-relationships.ensures.1 in
    rw (p.1, p.2) (λ other. bonds_failed (max_elements_in c.args.row.now.scene.now) (kept_view c.args.kept) (path_view c.args.path.now) c.args.live.now.graph (row ++ bindings c.args.named.now.items)
    (making_of c.make_nodes.new.live.graph row c.make_nodes.new.named.items c.in_ok-nodes.nodes.items) c.in_ok-nodes.ensures.ok
    c.in_err-relationships.field-0.0 (c.in_err-relationships.ensures.err other))

pub returns-in_err-relationships-clause-aside : goal.returns-in_err-relationships-clause-aside
returns-in_err-relationships-clause-aside g c =
    c.make_bonds.ensures.aside ∙ c.make_nodes.ensures.aside

pub returns-in_err-relationships-clause-grows : goal.returns-in_err-relationships-clause-grows
returns-in_err-relationships-clause-grows g c =
    let p = err_from_is_err_and c.from_residual-in_err-relationships.result c.from_residual-in_err-relationships.ensures.1 in
    rw p.1 tt

pub returns-in_err-relationships-clause-there : goal.returns-in_err-relationships-clause-there
returns-in_err-relationships-clause-there g c =
    let p = err_from_is_err_and c.from_residual-in_err-relationships.result c.from_residual-in_err-relationships.ensures.1 in
    rw p.1 tt

pub returns-clause-ok : goal.returns-clause-ok
returns-clause-ok g c =
    let row = row_at c.args.row.now in
    all_joined (max_elements_in c.args.row.now.scene.now) (kept_view c.args.kept) (path_view c.args.path.now) c.args.live.now.graph (row ++ bindings c.args.named.now.items)
    (making_of c.make_nodes.new.live.graph row c.make_nodes.new.named.items c.in_ok-nodes.nodes.items) c.in_ok-nodes.ensures.ok
    c.make_bonds.new.live.graph (relationship_ids c.in_ok-relationships.relationships.items) c.in_ok-relationships.ensures.ok

pub returns-clause-aside : goal.returns-clause-aside
returns-clause-aside g c =
    c.make_bonds.ensures.aside ∙ c.make_nodes.ensures.aside

pub returns-clause-grows : goal.returns-clause-grows
returns-clause-grows g c =
    grows_twice c.args.live.now.graph c.make_nodes.new.live.graph c.make_bonds.new.live.graph
    c.in_ok-nodes.ensures.grows c.in_ok-relationships.ensures.grows

pub returns-clause-there : goal.returns-clause-there
returns-clause-there g c =
    there_grows c.make_nodes.new.live.graph c.make_bonds.new.live.graph (named_ids c.make_nodes.new.named.items)
    c.in_ok-relationships.ensures.grows c.in_ok-nodes.ensures.there.bound
