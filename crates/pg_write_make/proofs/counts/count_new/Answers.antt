use Rattle.std.proofs.Common.{arith, ap, ◌∙◌}
use Rattle.pg_meaning.specs.Updates.{count_nodes}
use Rattle.pg_write_make.proofs.CountLemmas.{enough_nodes}
use Rattle.pg_write_make.proofs.counts.count_new.Goals as goal

pub overflow_sub-relationships : goal.overflow_sub-relationships
overflow_sub-relationships c =
    let all = enough_nodes c.in_ok-nodes.nodes.items c.args.paths.now c.in_ok-nodes.ensures in
    let len = c.len.ensures in
    omega (arith, all, len)

pub returns : goal.returns
returns c =
    let all = enough_nodes c.in_ok-nodes.nodes.items c.args.paths.now c.in_ok-nodes.ensures in
    let len = c.len.ensures in
    let count = c.in_ok-count_nodes.ensures.count ∙ ap (count_nodes c.args.names.now) c.in_ok-nodes.ensures in
    omega (arith, all, len, count)
