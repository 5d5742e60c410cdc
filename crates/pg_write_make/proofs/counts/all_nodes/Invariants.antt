use Rattle.std.proofs.Common.{◌≡◌, ◌++◌, flat_map, drop}
use Rattle.pg_meaning.specs.Patterns.{nodes_of}
use Rattle.pg_write_make.specs.Lent.{paths_view}
use Rattle.pg_write_make.specs.Makings.{patterns_view}
use Rattle.pg_write_make.proofs.counts.all_nodes.Given as goal

abbrev pub invariant-loop-path : goal.invariant-loop-path
invariant-loop-path l = flat_map nodes_of (paths_view l.paths) ≡ patterns_view l.nodes.items ++ flat_map nodes_of (paths_view (drop l.path-index l.paths))
