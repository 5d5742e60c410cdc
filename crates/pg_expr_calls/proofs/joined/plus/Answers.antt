use Rattle.std.specs.declared.rc.Rc.{Rc}
use Rattle.std.proofs.Common.{◌≡◌, ◌≢◌, Vec, String, Global, string_bytes, Ok, Err, rules, sym, ap, subst, ◌∙◌}
use Rattle.std.specs.Result.{IfOk, IfErr}
use Rattle.pg_meaning.specs.Arithmetic.{plus}
use Rattle.pg_meaning.specs.Value.{text, list}
use Rattle.pg_meaning.specs.declared.fault.Fault.TheVariants.{OutOfMemory}
use Rattle.pg_value_core.specs.View.{view, values_view}
use Rattle.pg_value_core.specs.declared.value.Value.{Value, Text, List as ListValue, the_lemmas}
use Rattle.pg_expr_calls.proofs.joined.plus.Goals as goal

view_text : (s : Rc (String Global) Global) → view (Text s) ≡ text (string_bytes s.value)
view_text s = search (rules, the_lemmas)

view_list : (xs : Rc (Vec Value Global) Global) → view (ListValue xs) ≡ list (values_view xs.value.items)
view_list xs = search (rules, the_lemmas)

pub returns-in-Text-clause-ok : goal.returns-in-Text-clause-ok
returns-in-Text-clause-ok c = subst (λ v. IfOk c.shared_plus.result (λ u. plus v (view c.args.w) ≡ Ok (view u))) (sym (view_text c.in-Text.s) ∙ ap view c.in-Text.ensures) c.shared_plus.ensures.ok

pub returns-in-Text-clause-err : goal.returns-in-Text-clause-err
returns-in-Text-clause-err c = subst (λ v. IfErr c.shared_plus.result (λ e. e ≢ OutOfMemory → plus v (view c.args.w) ≡ Err e)) (sym (view_text c.in-Text.s) ∙ ap view c.in-Text.ensures) c.shared_plus.ensures.err

pub returns-in-List-clause-ok : goal.returns-in-List-clause-ok
returns-in-List-clause-ok c = subst (λ v. IfOk c.list_plus.result (λ u. plus v (view c.args.w) ≡ Ok (view u))) (sym (view_list c.in-List.xs) ∙ ap view c.in-List.ensures) c.list_plus.ensures.ok

pub returns-in-List-clause-err : goal.returns-in-List-clause-err
returns-in-List-clause-err c = subst (λ v. IfErr c.list_plus.result (λ e. e ≢ OutOfMemory → plus v (view c.args.w) ≡ Err e)) (sym (view_list c.in-List.xs) ∙ ap view c.in-List.ensures) c.list_plus.ensures.err

pub returns-in_default-clause-ok : goal.returns-in_default-clause-ok
returns-in_default-clause-ok c = subst (λ v. IfOk c.other_plus.result (λ u. plus (view v) (view c.args.w) ≡ Ok (view u))) (c.into_value.ensures ∙ c.into_parts.ensures) c.other_plus.ensures.ok

pub returns-in_default-clause-err : goal.returns-in_default-clause-err
returns-in_default-clause-err c = subst (λ v. IfErr c.other_plus.result (λ e. e ≢ OutOfMemory → plus (view v) (view c.args.w) ≡ Err e)) (c.into_value.ensures ∙ c.into_parts.ensures) c.other_plus.ensures.err
