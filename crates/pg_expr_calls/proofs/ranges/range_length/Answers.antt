use Rattle.std.proofs.Common.{◌≡◌, to_z, of_z, ap, sym, ◌∙◌, arith, rules}
use Rattle.std.specs.Prelude.{◌-ℤ◌}
use Rattle.std.specs.Int.{w64}
use Rattle.pg_expr_calls.proofs.RangeCounts.{all_fit, heavy_range, light_range}
use Rattle.pg_meaning.specs.Functions.{range_by, steps_within}
use Rattle.pg_expr_calls.proofs.ranges.range_length.Goals as goal

pub returns-clause-ok : goal.returns-clause-ok
returns-clause-ok c =
    let start = to_z w64 (of_z w64 c.args.start) in
    let end = to_z w64 (of_z w64 c.args.end) in
    let step = to_z w64 (of_z w64 c.args.step) in
    let first : start ≡ c.args.start = search rules in
    let last : end ≡ c.args.end = search rules in
    let by : step ≡ c.args.step = search rules in
    let count : c.steps_within-count.result ≡ steps_within (end -ℤ start) step = omega (arith, c.steps_within-count.ensures, c.if-count-ge-GREATEST_WEIGHT.false) in
    let same : steps_within (end -ℤ start) step ≡ steps_within (c.args.end -ℤ c.args.start) c.args.step = search rules in
    record {
      gives = light_range c.steps_within-count.result c.args.start c.args.end c.args.step (λ zero. c.if-step-eq0.false (ap (of_z w64) zero)) (count ∙ same) c.if-count-ge-GREATEST_WEIGHT.false;
      fit = all_fit c.steps_within-count.result c.args.start c.args.end c.args.step c.ranges.start c.ranges.end (count ∙ same);
      few = omega (arith, c.if-count-ge-GREATEST_WEIGHT.false);
    }

pub returns-then-step-eq0-clause-err : goal.returns-then-step-eq0-clause-err
returns-then-step-eq0-clause-err c =
    let same : to_z w64 (of_z w64 c.args.step) ≡ c.args.step = search rules in
    ap (range_by c.args.start c.args.end) (sym same ∙ ap (to_z w64) c.if-step-eq0.true)

pub returns-then-count-ge-GREATEST_WEIGHT-clause-err : goal.returns-then-count-ge-GREATEST_WEIGHT-clause-err
returns-then-count-ge-GREATEST_WEIGHT-clause-err c =
    let start = to_z w64 (of_z w64 c.args.start) in
    let end = to_z w64 (of_z w64 c.args.end) in
    let step = to_z w64 (of_z w64 c.args.step) in
    let same : steps_within (end -ℤ start) step ≡ steps_within (c.args.end -ℤ c.args.start) c.args.step = search rules in
    heavy_range c.args.start c.args.end c.args.step (λ zero. c.if-step-eq0.false (ap (of_z w64) zero)) (omega (arith, same, c.steps_within-count.ensures, c.if-count-ge-GREATEST_WEIGHT.true))
