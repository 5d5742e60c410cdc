use Rattle.std.proofs.Common.{◌≡◌, ◌+◌, ◌-◌, ℤ, zero, suc, ap, sym, ◌∙◌, arith, rules, to_z, of_z}
use Rattle.std.specs.Int.{w64}
use Rattle.pg_meaning.specs.Arithmetic.{appended}
use Rattle.pg_meaning.specs.Functions.{integers_from}
use Rattle.pg_meaning.specs.Value.{no_items, Values}
use Rattle.pg_value_core.specs.View.{values_view}
use Rattle.pg_expr_calls.proofs.Joins.{none_more}
use Rattle.pg_expr_calls.proofs.RangeSteps.{on_from, rest_from, last_from, ended}
use Rattle.pg_expr_calls.proofs.ranges.integers_from.Goals as goal

pub loop-k-preserved : goal.loop-k-preserved
loop-k-preserved c =
    let e : c.args.count - c.loop-k._k ≡ suc (c.args.count - (c.loop-k._k + 1)) = omega arith in (
      omega arith,
      on_from _ _ _ _ _ e (search rules) c.loop-k.invariant.1,
      c.in_ok-push_integer.ensures _ ∙ sym (ap (λ (ws : Values). appended (values_view c.loop-k.items.items) ws) (rest_from _ _ _ _ _ e (search rules))) ∙ c.loop-k.invariant.2,
    )

pub returns-in_default : goal.returns-in_default
returns-in_default c =
    let e : c.args.count - c.loop-k._k ≡ suc (c.args.count - (c.loop-k._k + 1)) = omega arith in
    let last = last_from (c.args.count - c.loop-k._k) (c.args.count - (c.loop-k._k + 1)) _ _ e c.in_default.ensures c.loop-k.invariant.1 in
    let a : to_z w64 (of_z w64 c.args.start) ≡ c.args.start = search rules in
    let b : to_z w64 (of_z w64 c.args.step) ≡ c.args.step = search rules in
    cc (none_more c.push_integer.new.values.items, c.in_ok-push_integer.ensures no_items, last, c.loop-k.invariant.2, a, b)

pub returns : goal.returns
returns c =
    let z : c.args.count - c.loop-k._k ≡ zero = omega arith in
    let a : to_z w64 (of_z w64 c.args.start) ≡ c.args.start = search rules in
    let b : to_z w64 (of_z w64 c.args.step) ≡ c.args.step = search rules in
    ended _ _ _ c.loop-k.items.items _ z c.loop-k.invariant.2
    ∙ ap (λ (s : ℤ). integers_from c.args.count s (to_z w64 (of_z w64 c.args.step))) a
    ∙ ap (λ (t : ℤ). integers_from c.args.count c.args.start t) b
