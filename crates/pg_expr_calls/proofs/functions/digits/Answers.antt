use Rattle.std.proofs.Common.{◌≡◌, ◌∙◌, subst, ℕ, List, string_bytes, IfOk, rules}
use Rattle.std.specs.Fmt.{signed_decimal}
use Rattle.pg_expr_calls.proofs.Spelling.{digits_spelled}
use Rattle.pg_expr_calls.proofs.functions.digits.Goals as goal

pub returns : goal.returns
returns c =
    let spelled : c.format.result.now ≡ signed_decimal c.args.i = search rules in
    subst (λ (bs : List ℕ). IfOk c.from_str.result (λ s. string_bytes s ≡ bs)) (spelled ∙ digits_spelled c.args.i) c.from_str.ensures.ok
