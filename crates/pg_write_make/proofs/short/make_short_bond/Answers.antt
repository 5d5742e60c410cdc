use Rattle.std.proofs.Common.{List, ◌∷◌, [], false, map, option_map, refl, sym, ap, ◌∙◌}
use Rattle.std.proofs.lemmas.Result.{IfOk-from_err}
use Rattle.pg_expr.proofs.ExitLemmas.{fault_passed}
use Rattle.pg_meaning.specs.Patterns.{node_name, nodes_of, relationship_name}
use Rattle.pg_meaning.specs.Reading.{test_nodes}
use Rattle.pg_meaning.specs.Value.{node, relationship}
use Rattle.pg_meaning.specs.declared.fault.Fault.TheVariants.{OutOfMemory}
use Rattle.pg_syntax_tree.specs.View.{hop_view, name_view, path_view}
use Rattle.pg_value_core.specs.declared.value.Value.{Value}
use Rattle.pg_write_make.proofs.ShortLemmas.{bond_binds, one_tested, ready_alone, row_alone, row_unmade}
use Rattle.pg_write_make.specs.Creations.{path_left}
use Rattle.pg_write_make.specs.Outcomes.{trail_of}
use Rattle.pg_write_make.specs.Scenes.{max_elements_in, parameters_in, row_in}
use Rattle.pg_write_make.proofs.short.make_short_bond.Goals as goal

pub make_lone_bond-requires-clause-alone : goal.make_lone_bond-requires-clause-alone
make_lone_bond-requires-clause-alone g c = c.requires.alone

pub make_lone_bond-requires-clause-tested : goal.make_lone_bond-requires-clause-tested
make_lone_bond-requires-clause-tested g c =
    let p = path_view c.args.path.now in
    let scene = c.args.scene.now in
    ap (λ (vs : List Value). test_nodes false c.args.live.now.graph (row_in scene vs) (nodes_of p)) c.deref.ensures.value ∙ one_tested c.args.live.now.graph (row_in scene c.args.values.now.items) p c.requires.tested

pub returns-in_err-bond-clause-ok : goal.returns-in_err-bond-clause-ok
returns-in_err-bond-clause-ok g c = IfOk-from_err c.from_residual.result _ c.from_residual.ensures.0

pub returns-in_err-bond-clause-whole : goal.returns-in_err-bond-clause-whole
returns-in_err-bond-clause-whole g c = IfOk-from_err c.from_residual.result _ c.from_residual.ensures.0

pub returns-in_err-bond-clause-err : goal.returns-in_err-bond-clause-err
returns-in_err-bond-clause-err g c =
    let scene = c.args.scene.now in
    let names = scene.names.now in
    let parameters = parameters_in scene in
    let max = max_elements_in scene in
    let p = path_view c.args.path.now in
    let graph = c.args.live.now.graph in
    let values = c.args.values.now.items in
    let seen = ap (λ (vs : List Value). path_left parameters max p graph (row_in scene vs)) (sym c.deref.ensures.value) in
    let e = c.in_err-bond.field-0.0 in
    fault_passed _ e c.from_residual.result c.from_residual.ensures.1 (λ other. row_unmade parameters max names values (p ∷ []) c.requires.ready.within c.requires.ready.names graph p refl e (seen ∙ c.in_err-bond.ensures.err other))

pub returns-in_err-bond-clause-aside : goal.returns-in_err-bond-clause-aside
returns-in_err-bond-clause-aside g c = c.make_lone_bond.ensures.aside

pub bind_bond-requires : goal.bind_bond-requires
bind_bond-requires g c =
    let scene = c.args.scene.now in
    let names = scene.names.now in
    let parameters = parameters_in scene in
    let max = max_elements_in scene in
    let p = path_view c.args.path.now in
    let graph = c.args.live.now.graph in
    let values = c.args.values.now.items in
    let seen = ap (λ (vs : List Value). path_left parameters max p graph (row_in scene vs)) (sym c.deref.ensures.value) in
    let after = c.make_lone_bond.new.live.graph in
    let made = c.in_ok-bond.bond in
    let t = trail_of (made.left.0 ∷ made.right.0 ∷ []) (made.id.0 ∷ []) in
    let h = hop_view c.args.hop.now in
    let bs = (node_name p.first, node made.left.0) ∷ (relationship_name h.0, relationship made.id.0) ∷ (node_name h.1, node made.right.0) ∷ [] in
    let are = bond_binds after p (ap (option_map name_view) c.requires.unnamed) h made.left.0 made.right.0 made.id.0 (ap (map hop_view) c.requires.alone) in
    ready_alone parameters max names values (p ∷ []) c.requires.ready.within c.requires.ready.names graph p refl after t (seen ∙ c.in_ok-bond.ensures.ok) bs are

pub returns-in_err-bind_bond-clause-ok : goal.returns-in_err-bind_bond-clause-ok
returns-in_err-bind_bond-clause-ok g c = IfOk-from_err c.from_residual-in_err-bind_bond.result _ c.from_residual-in_err-bind_bond.ensures.0

pub returns-in_err-bind_bond-clause-whole : goal.returns-in_err-bind_bond-clause-whole
returns-in_err-bind_bond-clause-whole g c = IfOk-from_err c.from_residual-in_err-bind_bond.result _ c.from_residual-in_err-bind_bond.ensures.0

pub returns-in_err-bind_bond-clause-err : goal.returns-in_err-bind_bond-clause-err
returns-in_err-bind_bond-clause-err g c = fault_passed _ OutOfMemory c.from_residual-in_err-bind_bond.result c.from_residual-in_err-bind_bond.ensures.1 (λ other. absurd (other refl))

pub returns-in_err-bind_bond-clause-aside : goal.returns-in_err-bind_bond-clause-aside
returns-in_err-bind_bond-clause-aside g c = c.make_lone_bond.ensures.aside

pub returns-clause-ok : goal.returns-clause-ok
returns-clause-ok g c =
    let scene = c.args.scene.now in
    let names = scene.names.now in
    let parameters = parameters_in scene in
    let max = max_elements_in scene in
    let p = path_view c.args.path.now in
    let graph = c.args.live.now.graph in
    let values = c.args.values.now.items in
    let seen = ap (λ (vs : List Value). path_left parameters max p graph (row_in scene vs)) (sym c.deref.ensures.value) in
    let after = c.make_lone_bond.new.live.graph in
    let made = c.in_ok-bond.bond in
    let t = trail_of (made.left.0 ∷ made.right.0 ∷ []) (made.id.0 ∷ []) in
    let h = hop_view c.args.hop.now in
    let bs = (node_name p.first, node made.left.0) ∷ (relationship_name h.0, relationship made.id.0) ∷ (node_name h.1, node made.right.0) ∷ [] in
    let are = bond_binds after p (ap (option_map name_view) c.requires.unnamed) h made.left.0 made.right.0 made.id.0 (ap (map hop_view) c.requires.alone) in
    row_alone parameters max names values (p ∷ []) c.requires.ready.within c.requires.ready.names graph p refl after t (seen ∙ c.in_ok-bond.ensures.ok) bs are (row_in scene c.bind_bond.new.values.items) c.in_ok-bind_bond.ensures.bound

pub returns-clause-whole : goal.returns-clause-whole
returns-clause-whole g c = c.in_ok-bind_bond.ensures.whole

pub returns-clause-err : goal.returns-clause-err
returns-clause-err g c = tt

pub returns-clause-aside : goal.returns-clause-aside
returns-clause-aside g c = c.make_lone_bond.ensures.aside
