use Rattle.std.proofs.Common.{◌++◌, ◌≤◌, length, subst}
use Rattle.pg_meaning.specs.Updates.{count_nodes}
use Rattle.pg_store.specs.Stores.{texts_of}
use Rattle.pg_write_make.proofs.TurnLemmas.{one_counts, none_counts, all_counted, few_in}
use Rattle.pg_write_make.specs.Makings.{patterns_view}
use Rattle.std.proofs.lemmas.Result.{IfOk-from_err}
use Rattle.pg_write_make.proofs.counts.count_nodes.Goals as goal
use Rattle.pg_write_make.proofs.counts.count_nodes.Goals.{then-branch, else-branch}

pub loop-node-preserved : goal.loop-node-preserved
loop-node-preserved c =
    let items = c.deref-node-items.result.now in
    let nodes = c.args.nodes.now.items in
    let i = c.loop-node.node-index in
    let names = c.args.names.now in
    let seen = texts_of c.loop-node.seen.items ++ names in
    let later = texts_of c.makes_node.new.seen.items ++ names in
    let whole = count_nodes names (patterns_view nodes) in
    elim c.if-branch.branch [
      | then-branch w ↦
          let both = one_counts items nodes i c.node-item.result c.deref-node-items.ensures.value c.node-item.is c.loop-node-test.true seen later c.in_ok-makes_node.field-0 c.in_ok-makes_node.ensures
          c.loop-node.count c.if-branch.count whole c.loop-node.invariant.rest c.loop-node.invariant.few w.if-branch.true w.count-is in
          record { rest = both.0; few = both.1 }
      | else-branch w ↦
          let both = none_counts items nodes i c.node-item.result c.deref-node-items.ensures.value c.node-item.is c.loop-node-test.true seen later c.in_ok-makes_node.field-0 c.in_ok-makes_node.ensures
          c.loop-node.count c.if-branch.count whole c.loop-node.invariant.rest c.loop-node.invariant.few w.if-branch.false w.count-is in
          record { rest = both.0; few = both.1 }
    ]

pub returns-in_err-makes_node-clause-count : goal.returns-in_err-makes_node-clause-count
returns-in_err-makes_node-clause-count c = IfOk-from_err c.from_residual.result _ c.from_residual.ensures.0

pub returns-in_err-makes_node-clause-few : goal.returns-in_err-makes_node-clause-few
returns-in_err-makes_node-clause-few c = IfOk-from_err c.from_residual.result _ c.from_residual.ensures.0

pub returns-clause-count : goal.returns-clause-count
returns-clause-count c =
    all_counted c.deref-node-items.result.now c.args.nodes.now.items c.loop-node.node-index c.deref-node-items.ensures.value c.loop-node-test.false (texts_of c.loop-node.seen.items ++ c.args.names.now) c.loop-node.count
    (count_nodes c.args.names.now (patterns_view c.args.nodes.now.items)) c.loop-node.invariant.rest

pub returns-clause-few : goal.returns-clause-few
returns-clause-few c =
    let items = c.deref-node-items.result.now in
    subst (λ ns. c.loop-node.count ≤ length ns) c.deref-node-items.ensures.value (few_in c.loop-node.count c.loop-node.node-index (length items) c.loop-node.invariant.few c.loop-node.auto.node-index-end)
