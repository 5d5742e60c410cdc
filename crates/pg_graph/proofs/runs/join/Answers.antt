use Rattle.std.proofs.Common.{◌+◌, arith, sym, ap, subst, ◌∙◌}
use Rattle.pg_graph.specs.IdRuns.{flattened, AreRuns}
use Rattle.pg_graph.proofs.RunLists.{pair_joined, pair_runs}
use Rattle.pg_graph.proofs.runs.join.Goals as goal

pub returns-clause-same : goal.returns-clause-same
returns-clause-same c =
    ap flattened (c.shrink_list.ensures ∙ c.remove.ensures.items)
    ∙ pair_joined c.args.runs.now.items c.args.i (c.args.i + 1) c.index-3.result.now c.index-4.result.now c.in-Ok.both
    (omega arith) (omega (arith, c.requires.inside, c.len.ensures, c.if-next-len.false)) c.index-3.ensures c.index-4.ensures c.in-Ok.ensures

pub returns-clause-runs : goal.returns-clause-runs
returns-clause-runs c =
    subst AreRuns (sym (c.shrink_list.ensures ∙ c.remove.ensures.items))
    (pair_runs c.args.runs.now.items c.args.i (c.args.i + 1) c.index-3.result.now c.index-4.result.now c.in-Ok.both
    (omega arith) (omega (arith, c.requires.inside, c.len.ensures, c.if-next-len.false)) c.index-3.ensures c.index-4.ensures c.in-Ok.ensures c.requires.runs)
