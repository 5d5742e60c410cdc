use Rattle.std.proofs.Common.{arith, ◌∙◌}
use Rattle.pg_graph.proofs.RunLists.{inside, run_in_rises, run_has}
use Rattle.pg_graph.proofs.runs.has.Goals as goal

pub offset_bounds-runs-i : goal.offset_bounds-runs-i
offset_bounds-runs-i c = let h = inside c.args.id c.args.runs.now c.in-Some.i c.in-Some.ensures.some in omega (arith, h)

pub bounds-runs-i : goal.bounds-runs-i
bounds-runs-i c = inside c.args.id c.args.runs.now c.in-Some.i c.in-Some.ensures.some

pub has-requires : goal.has-requires
has-requires c = run_in_rises c.args.runs.now c.in-Some.i c.index-runs-i.result c.requires (inside c.args.id _ _ c.in-Some.ensures.some) c.index-runs-i.is

pub returns-in-Some : goal.returns-in-Some
returns-in-Some c = c.has.ensures ∙ run_has c.args.id c.args.runs.now c.in-Some.i c.index-runs-i.result c.in-Some.ensures.some c.index-runs-i.is
