use Rattle.std.proofs.Common.{◌≡◌, map, drop}
use Rattle.pg_expr.specs.Prepared.{tree_of}
use Rattle.pg_write.specs.Gathered.{put_row}
use Rattle.pg_write_make.specs.Scenes.{row_in, parameters_in}
use Rattle.pg_write.proofs.gathering.gather_row.Given as goal

abbrev pub invariant-loop-element : goal.invariant-loop-element
invariant-loop-element g l =
    let row = row_in l.scene l.row in
    let tree = tree_of l.scene.names.now in
    put_row (parameters_in l.scene) l.graph (map tree l.elements.items) l.fn.doomed row ≡ put_row (parameters_in l.scene) l.graph (map tree (drop l.element-index l.elements.items)) l.doomed row
