use Rattle.std.proofs.Common.{◌≡◌, ◌++◌, drop}
use Rattle.pg_meaning.specs.Patterns.{nodes_of}
use Rattle.pg_syntax_tree.specs.View.{path_view}
use Rattle.pg_write_make.specs.Makings.{others_view, patterns_view}
use Rattle.pg_write_make.proofs.counts.push_nodes.Given as goal

abbrev pub invariant-loop-hop : goal.invariant-loop-hop
invariant-loop-hop l = patterns_view l.nodes.items ++ others_view (drop l.hop-index l.path.hops.items) ≡ patterns_view l.fn.nodes.items ++ nodes_of (path_view l.path)
