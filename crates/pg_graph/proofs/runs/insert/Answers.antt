use Rattle.std.proofs.Common.{length, arith, ap, ◌∙◌}
use Rattle.pg_graph.proofs.RunLists.{inside, run_found, any_default}
use Rattle.pg_graph.proofs.runs.insert.Goals as goal

pub index-requires : goal.index-requires
index-requires c = let h = inside c.args.id c.as_slice.result.now c.in-Some.i c.in-Some.ensures.some in omega (arith, h, c.as_slice.ensures.len)

pub split-requires-clause-inside : goal.split-requires-clause-inside
split-requires-clause-inside c = inside c.args.id _ _ (run_found c.args.id c.args.runs.now.items _ c.in-Some.i c.as_slice.ensures.value c.in-Some.ensures.some)

pub split-requires-clause-long : goal.split-requires-clause-long
split-requires-clause-long c = λ r.
    let h = inside c.args.id _ _ (run_found c.args.id c.args.runs.now.items _ c.in-Some.i c.as_slice.ensures.value c.in-Some.ensures.some) in
    let same = ap length (c.index.ensures ∙ any_default c.args.runs.now.items c.in-Some.i c.index.result.now r h) in
    omega (arith, same, c.len.ensures, c.if-len-lt-LONGEST.false)
