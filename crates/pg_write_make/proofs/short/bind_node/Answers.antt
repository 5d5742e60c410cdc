use Rattle.std.proofs.Common.{map}
use Rattle.pg_meaning.specs.Patterns.{node_name}
use Rattle.pg_meaning.specs.Value.{node}
use Rattle.pg_syntax_tree.specs.View.{node_view}
use Rattle.pg_value_core.specs.View.{view}
use Rattle.pg_value_core.specs.declared.value.Value.TheVariants.{Node}
use Rattle.pg_write_make.proofs.HopLemmas.{node_seen}
use Rattle.pg_write_make.proofs.ShortLemmas.{binds_value, binds_whole, on_both}
use Rattle.pg_write_make.proofs.short.bind_node.Goals as goal

pub returns-clause-bound : goal.returns-clause-bound
returns-clause-bound c =
    (on_both c.bind_new.result (λ binds. binds_whole c.args.scene.now.names.now (map view c.args.values.now.items) c.bind_new.new.values.items (node_name (node_view c.args.pattern.now)) (node c.args.id.0) c.requires (binds_value c.args.scene.now.names.now (map view c.args.values.now.items) (map view c.bind_new.new.values.items) (node_name (node_view c.args.pattern.now)) (view (Node c.args.id)) (node c.args.id.0) (node_seen c.args.id) binds)) c.bind_new.ensures).0

pub returns-clause-whole : goal.returns-clause-whole
returns-clause-whole c =
    (on_both c.bind_new.result (λ binds. binds_whole c.args.scene.now.names.now (map view c.args.values.now.items) c.bind_new.new.values.items (node_name (node_view c.args.pattern.now)) (node c.args.id.0) c.requires (binds_value c.args.scene.now.names.now (map view c.args.values.now.items) (map view c.bind_new.new.values.items) (node_name (node_view c.args.pattern.now)) (view (Node c.args.id)) (node c.args.id.0) (node_seen c.args.id) binds)) c.bind_new.ensures).1
