use Rattle.std.proofs.Common.{◌≡◌, ◌<◌, ◌+◌, length, arith, sym, ap, subst, ◌∙◌}
use Rattle.pg_graph.proofs.RunLists.{any_default, run_split, runs_split}
use Rattle.pg_graph.proofs.runs.split.Goals as goal
use Rattle.pg_graph.proofs.runs.split.Goals.{then-i-len, else-i-len}

pub returns-clause-same : goal.returns-clause-same
returns-clause-same c =
    run_split c.args.runs.now.items c.insert.new.self.items c.args.i (c.args.i + 1) c.if-i-len.place c.index-2.result.now c.in_ok-rest.rest c.index_mut.result.now c.truncate.new.self
    c.requires.inside (omega arith) c.index-2.ensures c.in_ok-rest.ensures c.in_ok-insert.ensures.items c.index_mut.ensures.value c.truncate.ensures

pub returns-clause-runs : goal.returns-clause-runs
returns-clause-runs c =
    let was = c.index-2.result.now in
    let long : 1 < length was = subst (λ r. 1 < length r) (sym c.index-2.ensures) (c.requires.long was) in
    let measured : c.len-length.result ≡ length was =
    c.len-length.ensures ∙ ap length (c.index.ensures ∙ any_default c.args.runs.now.items c.args.i _ _ c.requires.inside ∙ sym c.index-2.ensures) in
    let within : (0 < c.if-i-len.place) × (c.if-i-len.place < length was) = elim c.if-i-len.branch [
      | then-i-len w ↦ (omega (arith, long, measured, w.place-is), omega (arith, long, measured, w.place-is))
      | else-i-len w ↦ (omega (arith, long, measured, w.place-is), omega (arith, long, measured, w.place-is))
    ] in
    runs_split c.args.runs.now.items c.insert.new.self.items c.args.i (c.args.i + 1) c.if-i-len.place was c.in_ok-rest.rest c.index_mut.result.now c.truncate.new.self
    c.requires.inside (omega arith) c.index-2.ensures c.in_ok-rest.ensures c.in_ok-insert.ensures.items c.index_mut.ensures.value c.truncate.ensures
    within.0 within.1 c.requires.runs
