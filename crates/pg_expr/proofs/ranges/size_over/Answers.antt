use borrow.Author.Tests.{ltb-true, ltb-false}
use mir.Val.{SFits}
use Rattle.std.proofs.Common.{rules, arith, ◌≡◌, ◌<◌, ℕ, pos, get_or, w64, IfOk, IfErr, Ok, Err, ap, sym, subst}
use Rattle.pg_expr.proofs.Integers.{of_two, of_three, of_few, of_many}
use Rattle.pg_meaning.specs.Answer.{Answer, ◌>>=◌}
use Rattle.pg_meaning.specs.Functions.{size_of}
use Rattle.pg_value_core.specs.View.{view}
use Rattle.pg_expr.proofs.ranges.size_over.Goals as goal
use Rattle.pg_expr.proofs.ranges.size_over.Goals.{in_default-via-then-as_slice-lt2, in_default-via-else-as_slice-lt2+else-this-lt3+else-this-lt4}

pub returns-in-len2-clause-ok : goal.returns-in-len2-clause-ok
returns-in-len2-clause-ok c =
    let is = c.as_slice.result.now in
    let fits : (i : ℕ) → i < 2 → SFits w64 (get_or is i (pos 0)) = search rules in
    subst (λ (r : Answer). IfOk c.range_size.result (λ v. (r >>= size_of) ≡ Ok (view v))) (sym (of_two is c.args.integers.now.items c.as_slice.ensures.value c.in-len2.len_at_least c.in-len2.len_below fits)) c.range_size.ensures.ok

pub returns-in-len2-clause-err : goal.returns-in-len2-clause-err
returns-in-len2-clause-err c =
    let is = c.as_slice.result.now in
    let fits : (i : ℕ) → i < 2 → SFits w64 (get_or is i (pos 0)) = search rules in
    subst (λ (r : Answer). IfErr c.range_size.result (λ e. (r >>= size_of) ≡ Err e)) (sym (of_two is c.args.integers.now.items c.as_slice.ensures.value c.in-len2.len_at_least c.in-len2.len_below fits)) c.range_size.ensures.err

pub returns-in-len3-clause-ok : goal.returns-in-len3-clause-ok
returns-in-len3-clause-ok c =
    let is = c.as_slice.result.now in
    let fits : (i : ℕ) → i < 3 → SFits w64 (get_or is i (pos 0)) = search rules in
    subst (λ (r : Answer). IfOk c.range_size-in-len3.result (λ v. (r >>= size_of) ≡ Ok (view v))) (sym (of_three is c.args.integers.now.items c.as_slice.ensures.value c.in-len3.len_at_least c.in-len3.len_below fits)) c.range_size-in-len3.ensures.ok

pub returns-in-len3-clause-err : goal.returns-in-len3-clause-err
returns-in-len3-clause-err c =
    let is = c.as_slice.result.now in
    let fits : (i : ℕ) → i < 3 → SFits w64 (get_or is i (pos 0)) = search rules in
    subst (λ (r : Answer). IfErr c.range_size-in-len3.result (λ e. (r >>= size_of) ≡ Err e)) (sym (of_three is c.args.integers.now.items c.as_slice.ensures.value c.in-len3.len_at_least c.in-len3.len_below fits)) c.range_size-in-len3.ensures.err

pub returns-in_default-clause-err : goal.returns-in_default-clause-err
returns-in_default-clause-err c =
    let is = c.as_slice.result.now in
    let all = c.args.integers.now.items in
    let same = c.as_slice.ensures.value in
    elim c.in_default.branch [
      | in_default-via-then-as_slice-lt2 w ↦ ap (λ r. r >>= size_of) (of_few is all same (omega (arith, ltb-true)))
      | in_default-via-else-as_slice-lt2+else-this-lt3+else-this-lt4 w ↦ ap (λ r. r >>= size_of) (of_many is all same (omega (arith, ltb-false)))
    ]
