use Rattle.std.proofs.Common.{map, ap, sym, ◌∙◌}
use Rattle.std.proofs.lemmas.Result.{IfOk-from_err}
use Rattle.pg_meaning.specs.Arithmetic.{appended}
use Rattle.pg_meaning.specs.Order.{keys_of}
use Rattle.pg_meaning.specs.Value.{text, item, values_of}
use Rattle.pg_value_core.specs.View.{values_view, entries_view}
use Rattle.pg_expr_calls.proofs.Joins.{none_more}
use Rattle.pg_expr_calls.proofs.parts.key_texts.Goals as goal

pub loop-key-preserved : goal.loop-key-preserved
loop-key-preserved c =
    let l = c.loop-key in
    let done = values_view l.keys.items in
    let more = values_of (map text (keys_of (entries_view c.next.new.self))) in
    c.in_ok-push_text.ensures more
    ∙ ap (λ k. appended done (item (text k) more)) c.as_str.ensures.value
    ∙ ap (λ es. appended done (values_of (map text (keys_of (entries_view es))))) (sym c.in-Some.ensures.steps)
    ∙ l.invariant

pub returns-in_err-push_text : goal.returns-in_err-push_text
returns-in_err-push_text c = IfOk-from_err c.from_residual.result _ c.from_residual.ensures.0

pub returns : goal.returns
returns c =
    let l = c.loop-key in
    let done = values_view l.keys.items in
    sym (none_more l.keys.items) ∙ ap (λ es. appended done (values_of (map text (keys_of (entries_view es))))) (sym c.in-None.ensures.steps.0) ∙ l.invariant
