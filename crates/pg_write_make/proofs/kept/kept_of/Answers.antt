use Rattle.std.proofs.Common.{◌++◌, map, ap, ◌∙◌}
use Rattle.pg_syntax_tree.specs.View.{node_view}
use Rattle.pg_write_make.proofs.LoopLemmas.{parts_kept}
use Rattle.pg_write_make.specs.Makings.{others_view, outcomes_view, relationships_view}
use Rattle.pg_write_make.specs.Outcomes.{node_outcome, outcome_view, relationship_outcome}
use Rattle.pg_write_make.specs.Scenes.{parameters_in, reading, row_in}
use Rattle.pg_write_make.proofs.kept.kept_of.Goals as goal

pub returns-clause-ok : goal.returns-clause-ok
returns-clause-ok g c =
    let path = c.args.path.now in
    let setting = reading (parameters_in c.args.scene.now) in
    let row = row_in c.args.scene.now c.args.row.now in
    let nodes = map (node_outcome setting c.args.graph.now row) (others_view path.hops.items) in
    let relationships = map (relationship_outcome setting c.args.graph.now row) (relationships_view path.hops.items) in
    parts_kept (outcome_view c.in_ok-first.first) (node_outcome setting c.args.graph.now row (node_view path.first))
    (outcomes_view c.keep_hops.new.nodes.items) nodes (outcomes_view c.keep_hops.new.relationships.items) relationships
    c.in_ok-first.ensures.kept
    (c.in_ok-keep_hops.ensures.nodes ∙ ap (λ os. outcomes_view os ++ nodes) c.new-nodes.ensures.items)
    (c.in_ok-keep_hops.ensures.relationships ∙ ap (λ os. outcomes_view os ++ relationships) c.new-relationships.ensures.items)
