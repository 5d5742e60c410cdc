use Rattle.std.proofs.Common.{◌≡◌, sym, ap, ◌∙◌, rules}
use Rattle.pg_meaning.specs.Value.{integer}
use Rattle.pg_value_core.specs.View.{view}
use Rattle.pg_expr_calls.proofs.Numerals.{read_integer, value_read}
use Rattle.pg_expr_calls.proofs.functions.integer_in.Goals as goal

pub returns-in-Ok : goal.returns-in-Ok
returns-in-Ok c =
    let made : view c.integer.result ≡ integer c.in-Ok.i = search rules in
    made ∙ sym (read_integer c.args.text.now c.parse.result c.parse.ensures.value.0 ∙ ap value_read c.in-Ok.is)

pub returns-in-Err : goal.returns-in-Err
returns-in-Err c =
    c.null.ensures ∙ sym (read_integer c.args.text.now c.parse.result c.parse.ensures.value.0 ∙ ap value_read c.in-Err.is)
