use Rattle.std.proofs.Common.{sym, subst, ap, string_bytes, ◌∙◌, [], ◌∷◌}
use Rattle.pg_expr.proofs.ScalarLemmas.{compared_told, nothing_then}
use Rattle.pg_expr.specs.Operators.{truth_compared}
use Rattle.pg_expr.specs.Scalars.{scalar_view, Tells, ThenTells}
use Rattle.pg_expr.specs.declared.scalar.Scalar.{Scalar}
use Rattle.pg_meaning.specs.Value.{text}
use Rattle.pg_expr.proofs.scalar_operators.text_compared.Goals as goal

pub returns-in-Text : goal.returns-in-Text
returns-in-Text c =
    subst (λ (u : Scalar). ThenTells (scalar_view u) (scalar_view c.judged.result) (λ y. truth_compared (text c.args.s.now) ((c.args.operator, y) ∷ []))) (sym c.in-Text.is)
    (subst (λ t. Tells (scalar_view c.judged.result) (truth_compared (text c.args.s.now) ((c.args.operator, text t) ∷ []))) c.as_str.ensures.value
    (compared_told c.args.operator (text c.args.s.now) (text c.as_str.result.now) c.texts_compared.result (scalar_view c.judged.result) c.judged.ensures c.texts_compared.ensures))

pub returns-in-SharedText : goal.returns-in-SharedText
returns-in-SharedText c =
    subst (λ (u : Scalar). ThenTells (scalar_view u) (scalar_view c.judged-in-SharedText.result) (λ y. truth_compared (text c.args.s.now) ((c.args.operator, y) ∷ []))) (sym c.in-SharedText.is)
    (subst (λ t. Tells (scalar_view c.judged-in-SharedText.result) (truth_compared (text c.args.s.now) ((c.args.operator, text t) ∷ []))) (c.as_str-in-SharedText.ensures.value ∙ ap string_bytes c.as_ref.ensures)
    (compared_told c.args.operator (text c.args.s.now) (text c.as_str-in-SharedText.result.now) c.texts_compared-in-SharedText.result (scalar_view c.judged-in-SharedText.result) c.judged-in-SharedText.ensures c.texts_compared-in-SharedText.ensures))

pub returns-in-ShortText : goal.returns-in-ShortText
returns-in-ShortText c =
    subst (λ (u : Scalar). ThenTells (scalar_view u) (scalar_view c.judged-in-ShortText.result) (λ y. truth_compared (text c.args.s.now) ((c.args.operator, y) ∷ []))) (sym c.in-ShortText.is)
    (subst (λ t. Tells (scalar_view c.judged-in-ShortText.result) (truth_compared (text c.args.s.now) ((c.args.operator, text t) ∷ []))) c.as_str-in-ShortText.ensures.value
    (compared_told c.args.operator (text c.args.s.now) (text c.as_str-in-ShortText.result.now) c.texts_compared-in-ShortText.result (scalar_view c.judged-in-ShortText.result) c.judged-in-ShortText.ensures c.texts_compared-in-ShortText.ensures))

pub returns-in_default : goal.returns-in_default
returns-in_default c = nothing_then (scalar_view c.args.w) (λ y. truth_compared (text c.args.s.now) ((c.args.operator, y) ∷ []))
