use Rattle.pg_graph.proofs.RunLists.{found_in_run}
use Rattle.pg_graph.proofs.runs.surely_has.Goals as goal

pub returns-then-has_at : goal.returns-then-has_at
returns-then-has_at c = λ h. found_in_run c.args.id c.args.runs.now _ c.index-runs-at.result c.if-at-runs.false c.index-runs-at.is (c.has_at.ensures c.if-has_at.true)

pub returns : goal.returns
returns c = λ h. found_in_run c.args.id c.args.runs.now _ c.index-runs-at.result c.if-at-runs.false c.index-runs-at.is (c.has_near.ensures h)
