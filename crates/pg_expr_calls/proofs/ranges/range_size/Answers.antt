use Rattle.std.proofs.Common.{◌≡◌, ℤ, to_z, of_z, rules, Ok, ap, sym, ◌∙◌}
use Rattle.std.specs.Int.{w64}
use Rattle.pg_expr_calls.proofs.RangeCounts.{size_of_range}
use Rattle.pg_meaning.specs.Answer.{◌>>=◌}
use Rattle.pg_meaning.specs.Functions.{range_by, size_of}
use Rattle.pg_expr_calls.proofs.ranges.range_size.Goals as goal

pub returns-clause-ok : goal.returns-clause-ok
returns-clause-ok c =
    let start = to_z w64 (of_z w64 c.args.start) in
    let end = to_z w64 (of_z w64 c.args.end) in
    let step = to_z w64 (of_z w64 c.args.step) in
    let first : start ≡ c.args.start = search rules in
    let last : end ≡ c.args.end = search rules in
    let by : step ≡ c.args.step = search rules in
    ap (λ (i : ℤ). range_by i c.args.end c.args.step >>= size_of) (sym first)
    ∙ ap (λ (i : ℤ). range_by start i c.args.step >>= size_of) (sym last)
    ∙ ap (λ (i : ℤ). range_by start end i >>= size_of) (sym by)
    ∙ size_of_range c.in_ok-length.length start end step c.in_ok-length.ensures.ok.gives
    ∙ ap Ok (sym c.count.ensures)
