use Rattle.std.proofs.Common.{◌≡◌, ◌≤◌, ◌-◌, length, arith, ap, subst, ◌∙◌}
use Rattle.pg_graph.specs.IdRuns.{first_of}
use Rattle.pg_graph.proofs.RunLists.{any_default, is_run_of, firsts_rise, of_equal, of_place}
use Rattle.pg_graph.proofs.runs.run_of.Goals as goal

pub returns-then-number-id-clause-some : goal.returns-then-number-id-clause-some
returns-then-number-id-clause-some c =
    let rs = c.args.runs.now in
    let last = c.in_ok-last.last in
    let at : (1 ≤ length rs) × (last ≡ length rs - 1) = c.in_ok-last.ensures in
    is_run_of c.args.id rs last c.requires (omega (arith, at.0, at.1))
    (λ d more. subst (λ n. n ≤ c.args.id) (c.number.ensures ∙ ap first_of (c.index-runs-last.is ∙ any_default rs last c.index-runs-last.result d (omega (arith, at.0, at.1)))) c.if-number-id.true)
    (λ d more. absurd (omega (arith, at.0, at.1)))

pub place-requires : goal.place-requires
place-requires c = firsts_rise c.args.runs.now c.requires

pub returns-in-Ok-clause-some : goal.returns-in-Ok-clause-some
returns-in-Ok-clause-some c = of_equal c.args.id c.args.runs.now c.in-Ok.i c.requires c.in-Ok.ensures.0 c.in-Ok.ensures.1

pub returns-in-Err-clause-some : goal.returns-in-Err-clause-some
returns-in-Err-clause-some c = of_place c.args.id c.args.runs.now c.saturating_sub.result c.in-Err.i c.requires (omega arith) c.in-Err.ensures.0 c.in-Err.ensures.1 (λ h. omega arith) (λ h. omega arith)
