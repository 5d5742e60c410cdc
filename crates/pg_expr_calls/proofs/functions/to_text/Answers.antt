use mir.Val.{SFits}
use Rattle.std.proofs.Common.{◌≡◌, ◌≢◌, Result, Ok, Err, IfErr, string_bytes, w64, to_z, of_z, sym, ap, ◌∙◌, rules}
use Rattle.std.proofs.lemmas.Int.{to_z-of_z}
use Rattle.std.proofs.lemmas.Result.{IfOk-weaker}
use Rattle.pg_meaning.specs.Answer.{Answer}
use Rattle.pg_meaning.specs.Functions.{digits_of, string_of}
use Rattle.pg_meaning.specs.Value.{text}
use Rattle.pg_meaning.specs.declared.fault.Fault.{Fault}
use Rattle.pg_meaning.specs.declared.fault.Fault.TheVariants.{OutOfMemory}
use Rattle.pg_value_core.proofs.Forms.{int_seen}
use Rattle.pg_value_core.specs.Parts.{value_of_parts}
use Rattle.pg_value_core.specs.View.{view}
use Rattle.pg_expr_calls.proofs.functions.to_text.Goals as goal

memory_short : {X : Type 0} (answer : Answer) (r : Result X Fault) → IfErr r (λ e. e ≡ OutOfMemory) → IfErr r (λ e. e ≢ OutOfMemory → answer ≡ Err e)
memory_short answer (Ok x) short = tt
memory_short answer (Err e) short = λ other. absurd (other short)

pub returns-in-Int-clause-ok : goal.returns-in-Int-clause-ok
returns-in-Int-clause-ok c =
    let fits : SFits w64 c.in-Int.i = search rules in
    let seen = int_seen c.in-Int.i (sym c.into_parts.ensures ∙ ap value_of_parts c.in-Int.is) in
    c.as_text.ensures.ok (string_of (view c.args.v)) (IfOk-weaker c.digits.result (λ s. string_bytes s ≡ digits_of (to_z w64 (of_z w64 c.in-Int.i))) _ (λ s e. ap string_of seen ∙ ap (λ b. Ok (text b)) (sym (e ∙ ap digits_of (to_z-of_z w64 c.in-Int.i fits)))) c.digits.ensures)

pub returns-in-Int-clause-err : goal.returns-in-Int-clause-err
returns-in-Int-clause-err c = memory_short (string_of (view c.args.v)) c.as_text.result c.as_text.ensures.err

pub returns-in-Bool-true-clause-err : goal.returns-in-Bool-true-clause-err
returns-in-Bool-true-clause-err c = memory_short (string_of (view c.args.v)) c.as_text-in-Bool-true.result c.as_text-in-Bool-true.ensures.err

pub returns-in-Bool-false-clause-err : goal.returns-in-Bool-false-clause-err
returns-in-Bool-false-clause-err c = memory_short (string_of (view c.args.v)) c.as_text-in-Bool-false.result c.as_text-in-Bool-false.ensures.err
