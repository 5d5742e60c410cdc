use Rattle.std.proofs.Common.{◌≡◌, Ok, refl, rules, sym, ap, subst, ◌∙◌, to_z, of_z, String, Global, string_bytes}
use Rattle.std.specs.Int.{w64}
use Rattle.pg_expr.proofs.ElementLemmas.{keys_told}
use Rattle.pg_expr.specs.Contexts.{given}
use Rattle.pg_expr.specs.Scalars.{scalar_view, Tells}
use Rattle.pg_expr.specs.declared.scalar.Scalar.{Scalar}
use Rattle.pg_meaning.specs.Value.{text}
use Rattle.pg_syntax_tree.specs.View.{expression_view}
use Rattle.pg_value_core.proofs.Forms.{null_seen, bool_seen, int_seen, text_seen, short_seen}
use Rattle.pg_value_core.specs.View.{view}
use Rattle.pg_value_core.specs.declared.value.Value.TheVariants as code
use Rattle.pg_expr.proofs.evaluation.owned.Goals as goal

pub returns-in-Untold : goal.returns-in-Untold
returns-in-Untold g c = c.found_at.ensures

pub returns-in-Null : goal.returns-in-Null
returns-in-Null g c =
    let is = subst (λ (told : Scalar). Tells (scalar_view told) (given c.args.context.now c.args.graph.now (expression_view c.args.expression.now))) c.in-Null.is c.requires in
    record { ok = is ∙ ap Ok (sym (null_seen refl)); err = tt }

pub returns-in-Bool : goal.returns-in-Bool
returns-in-Bool g c =
    let is = subst (λ (told : Scalar). Tells (scalar_view told) (given c.args.context.now c.args.graph.now (expression_view c.args.expression.now))) c.in-Bool.is c.requires in
    record { ok = is ∙ ap Ok (sym (bool_seen c.in-Bool.b refl)); err = tt }

pub returns-in-Int : goal.returns-in-Int
returns-in-Int g c =
    let is = subst (λ (told : Scalar). Tells (scalar_view told) (given c.args.context.now c.args.graph.now (expression_view c.args.expression.now))) c.in-Int.is c.requires in
    let same : to_z w64 (of_z w64 c.in-Int.i) ≡ c.in-Int.i = search rules in
    record { ok = is ∙ ap Ok (sym (int_seen c.in-Int.i (ap code.Int same))); err = tt }

pub returns-in-Text : goal.returns-in-Text
returns-in-Text g c =
    let is = subst (λ (told : Scalar). Tells (scalar_view told) (given c.args.context.now c.args.graph.now (expression_view c.args.expression.now))) c.in-Text.is c.requires in
    keys_told (text c.as_str.result.now) c.text_copied.result c.text_copied.ensures.ok c.text_copied.ensures.err (is ∙ ap (λ bytes. Ok (text bytes)) (sym c.as_str.ensures.value))

pub returns-in_ok-clone-in-SharedText : goal.returns-in_ok-clone-in-SharedText
returns-in_ok-clone-in-SharedText g c =
    let is = subst (λ (told : Scalar). Tells (scalar_view told) (given c.args.context.now c.args.graph.now (expression_view c.args.expression.now))) c.in-SharedText.is c.requires in
    record { ok = is ∙ ap Ok (ap (λ (s : String Global). text (string_bytes s)) (sym c.in_ok-clone-in-SharedText.ensures.cases) ∙ sym (text_seen c.in_ok-clone-in-SharedText.field-0 refl)); err = tt }

pub returns-in-ShortText : goal.returns-in-ShortText
returns-in-ShortText g c =
    let is = subst (λ (told : Scalar). Tells (scalar_view told) (given c.args.context.now c.args.graph.now (expression_view c.args.expression.now))) c.in-ShortText.is c.requires in
    record { ok = is ∙ ap Ok (sym (short_seen c.in-ShortText.text.now refl)); err = tt }

pub returns-in-Lent : goal.returns-in-Lent
returns-in-Lent g c =
    let is = subst (λ (told : Scalar). Tells (scalar_view told) (given c.args.context.now c.args.graph.now (expression_view c.args.expression.now))) c.in-Lent.is c.requires in
    keys_told (view c.in-Lent.value.now) c.copied.result c.copied.ensures.ok c.copied.ensures.err is
