use Rattle.std.proofs.Common.{List, ◌∷◌, [], map, option_map, refl, sym, ap, ◌∙◌}
use Rattle.std.proofs.lemmas.Result.{IfOk-from_err}
use Rattle.pg_expr.proofs.ExitLemmas.{fault_passed}
use Rattle.pg_meaning.specs.Patterns.{node_name}
use Rattle.pg_meaning.specs.Value.{node}
use Rattle.pg_meaning.specs.declared.fault.Fault.TheVariants.{OutOfMemory}
use Rattle.pg_syntax_tree.specs.View.{hop_view, name_view, path_view}
use Rattle.pg_value_core.specs.declared.value.Value.{Value}
use Rattle.pg_write_make.proofs.ShortLemmas.{node_binds, ready_alone, row_alone, row_unmade}
use Rattle.pg_write_make.specs.Creations.{path_left}
use Rattle.pg_write_make.specs.Outcomes.{trail_of}
use Rattle.pg_write_make.specs.Scenes.{max_elements_in, parameters_in, row_in}
use Rattle.pg_write_make.proofs.short.make_short_node.Goals as goal

pub make_lone_node-requires-clause-alone : goal.make_lone_node-requires-clause-alone
make_lone_node-requires-clause-alone g c = c.requires.alone

pub make_lone_node-requires-clause-labels : goal.make_lone_node-requires-clause-labels
make_lone_node-requires-clause-labels g c = c.requires.labels

pub returns-in_err-id-clause-ok : goal.returns-in_err-id-clause-ok
returns-in_err-id-clause-ok g c = IfOk-from_err c.from_residual.result _ c.from_residual.ensures.0

pub returns-in_err-id-clause-whole : goal.returns-in_err-id-clause-whole
returns-in_err-id-clause-whole g c = IfOk-from_err c.from_residual.result _ c.from_residual.ensures.0

pub returns-in_err-id-clause-err : goal.returns-in_err-id-clause-err
returns-in_err-id-clause-err g c =
    let scene = c.args.scene.now in
    let names = scene.names.now in
    let parameters = parameters_in scene in
    let max = max_elements_in scene in
    let p = path_view c.args.path.now in
    let graph = c.args.live.now.graph in
    let values = c.args.values.now.items in
    let seen = ap (λ (vs : List Value). path_left parameters max p graph (row_in scene vs)) (sym c.deref.ensures.value) in
    let e = c.in_err-id.field-0.0 in
    fault_passed _ e c.from_residual.result c.from_residual.ensures.1 (λ other. row_unmade parameters max names values (p ∷ []) c.requires.ready.within c.requires.ready.names graph p refl e (seen ∙ c.in_err-id.ensures.err other))

pub returns-in_err-id-clause-aside : goal.returns-in_err-id-clause-aside
returns-in_err-id-clause-aside g c = c.make_lone_node.ensures.aside

pub bind_node-requires : goal.bind_node-requires
bind_node-requires g c =
    let scene = c.args.scene.now in
    let names = scene.names.now in
    let parameters = parameters_in scene in
    let max = max_elements_in scene in
    let p = path_view c.args.path.now in
    let graph = c.args.live.now.graph in
    let values = c.args.values.now.items in
    let seen = ap (λ (vs : List Value). path_left parameters max p graph (row_in scene vs)) (sym c.deref.ensures.value) in
    let after = c.make_lone_node.new.live.graph in
    let made = c.in_ok-id.id in
    let t = trail_of (made.0 ∷ []) [] in
    let bs = (node_name p.first, node made.0) ∷ [] in
    let are = node_binds after p (ap (option_map name_view) c.requires.unnamed) made.0 (ap (map hop_view) c.requires.alone) in
    ready_alone parameters max names values (p ∷ []) c.requires.ready.within c.requires.ready.names graph p refl after t (seen ∙ c.in_ok-id.ensures.ok) bs are

pub returns-in_err-bind_node-clause-ok : goal.returns-in_err-bind_node-clause-ok
returns-in_err-bind_node-clause-ok g c = IfOk-from_err c.from_residual-in_err-bind_node.result _ c.from_residual-in_err-bind_node.ensures.0

pub returns-in_err-bind_node-clause-whole : goal.returns-in_err-bind_node-clause-whole
returns-in_err-bind_node-clause-whole g c = IfOk-from_err c.from_residual-in_err-bind_node.result _ c.from_residual-in_err-bind_node.ensures.0

pub returns-in_err-bind_node-clause-err : goal.returns-in_err-bind_node-clause-err
returns-in_err-bind_node-clause-err g c = fault_passed _ OutOfMemory c.from_residual-in_err-bind_node.result c.from_residual-in_err-bind_node.ensures.1 (λ other. absurd (other refl))

pub returns-in_err-bind_node-clause-aside : goal.returns-in_err-bind_node-clause-aside
returns-in_err-bind_node-clause-aside g c = c.make_lone_node.ensures.aside

pub returns-clause-ok : goal.returns-clause-ok
returns-clause-ok g c =
    let scene = c.args.scene.now in
    let names = scene.names.now in
    let parameters = parameters_in scene in
    let max = max_elements_in scene in
    let p = path_view c.args.path.now in
    let graph = c.args.live.now.graph in
    let values = c.args.values.now.items in
    let seen = ap (λ (vs : List Value). path_left parameters max p graph (row_in scene vs)) (sym c.deref.ensures.value) in
    let after = c.make_lone_node.new.live.graph in
    let made = c.in_ok-id.id in
    let t = trail_of (made.0 ∷ []) [] in
    let bs = (node_name p.first, node made.0) ∷ [] in
    let are = node_binds after p (ap (option_map name_view) c.requires.unnamed) made.0 (ap (map hop_view) c.requires.alone) in
    row_alone parameters max names values (p ∷ []) c.requires.ready.within c.requires.ready.names graph p refl after t (seen ∙ c.in_ok-id.ensures.ok) bs are (row_in scene c.bind_node.new.values.items) c.in_ok-bind_node.ensures.bound

pub returns-clause-whole : goal.returns-clause-whole
returns-clause-whole g c = c.in_ok-bind_node.ensures.whole

pub returns-clause-err : goal.returns-clause-err
returns-clause-err g c = tt

pub returns-clause-aside : goal.returns-clause-aside
returns-clause-aside g c = c.make_lone_node.ensures.aside
