use Rattle.std.proofs.Common.{◌∷◌, [], map, sym, ap, ◌∙◌}
use Rattle.std.proofs.lemmas.Result.{IfOk-from_err}
use Rattle.pg_meaning.specs.Patterns.{node_name, relationship_name}
use Rattle.pg_meaning.specs.Rows.{Row, bind_if_named}
use Rattle.pg_meaning.specs.Value.{node, relationship}
use Rattle.pg_syntax_tree.specs.View.{node_view, relationship_view}
use Rattle.pg_value_core.specs.View.{view}
use Rattle.pg_value_core.specs.declared.value.Value.TheVariants.{Node}
use Rattle.pg_write_make.proofs.HopLemmas.{node_seen}
use Rattle.pg_write_make.proofs.ShortLemmas.{binds_value, on_map}
use Rattle.pg_write_make.specs.Bindings.{Binding, bind_each}
use Rattle.pg_write_make.proofs.short.bind_bond.Goals as goal

pub returns-in_err-bind_new-clause-bound : goal.returns-in_err-bind_new-clause-bound
returns-in_err-bind_new-clause-bound c = IfOk-from_err c.from_residual.result _ c.from_residual.ensures.0

pub returns-in_err-bind_new-clause-whole : goal.returns-in_err-bind_new-clause-whole
returns-in_err-bind_new-clause-whole c = IfOk-from_err c.from_residual.result _ c.from_residual.ensures.0

pub returns-in_err-bind_relationship-clause-bound : goal.returns-in_err-bind_relationship-clause-bound
returns-in_err-bind_relationship-clause-bound c = IfOk-from_err c.from_residual-in_err-bind_relationship.result _ c.from_residual-in_err-bind_relationship.ensures.0

pub returns-in_err-bind_relationship-clause-whole : goal.returns-in_err-bind_relationship-clause-whole
returns-in_err-bind_relationship-clause-whole c = IfOk-from_err c.from_residual-in_err-bind_relationship.result _ c.from_residual-in_err-bind_relationship.ensures.0

pub bind_node-requires : goal.bind_node-requires
bind_node-requires c =
    let h = c.args.hop.now in
    let last : Binding = (node_name (node_view h.1), node c.args.bond.right.0) in
    let left = binds_value c.args.scene.now.names.now (map view c.args.values.now.items) (map view c.bind_new.new.values.items) (node_name (node_view c.args.first.now)) (view (Node c.args.bond.left)) (node c.args.bond.left.0) (node_seen c.args.bond.left) c.in_ok-bind_new.ensures in
    let one = left ((relationship_name (relationship_view h.0), relationship c.args.bond.id.0) ∷ last ∷ []) c.requires in
    let two = c.in_ok-bind_relationship.ensures (last ∷ []) one.0 in
    two.0

pub returns-clause-bound : goal.returns-clause-bound
returns-clause-bound c =
    let h = c.args.hop.now in
    let last : Binding = (node_name (node_view h.1), node c.args.bond.right.0) in
    let left = binds_value c.args.scene.now.names.now (map view c.args.values.now.items) (map view c.bind_new.new.values.items) (node_name (node_view c.args.first.now)) (view (Node c.args.bond.left)) (node c.args.bond.left.0) (node_seen c.args.bond.left) c.in_ok-bind_new.ensures in
    let one = left ((relationship_name (relationship_view h.0), relationship c.args.bond.id.0) ∷ last ∷ []) c.requires in
    let two = c.in_ok-bind_relationship.ensures (last ∷ []) one.0 in
    on_map c.bind_node.result (λ bound. bound ∙ ap (λ (r : Row). bind_each (last ∷ []) r) (sym two.1 ∙ ap (bind_if_named (relationship_name (relationship_view h.0)) (relationship c.args.bond.id.0)) (sym one.1))) c.bind_node.ensures.bound

pub returns-clause-whole : goal.returns-clause-whole
returns-clause-whole c = c.bind_node.ensures.whole
