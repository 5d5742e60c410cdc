use Rattle.std.proofs.Common.{◌≡◌, Some, pos, to_z, w64, sym, ap, ◌∙◌, arith, rules}
use Rattle.serde_json.specs.Data.{unsigned}
use Rattle.serde_json.specs.Find.{of_integer}
use Rattle.serde_json.specs.Read.{number_of}
use Rattle.pg_json.proofs.Numbers.{number_of-digits}
use Rattle.pg_json.proofs.number.whole_number.Goals as goal

pub returns-in-Some-clause-read : goal.returns-in-Some-clause-read
returns-in-Some-clause-read c =
    let text = c.as_bytes.result.now in
    let n = c.in-Some.number in
    let is : to_z w64 n ≡ pos n = search rules in
    ap number_of (sym c.as_bytes.ensures.value) ∙ number_of-digits text c.in-Some.ensures.digits (omega (arith, c.in-Some.ensures.within, c.in-Some.ensures.value))
    ∙ ap (λ m. Some (unsigned m)) (sym c.in-Some.ensures.value) ∙ ap (λ z. Some (of_integer z)) (sym is)
