use Rattle.std.proofs.Common.{◌≡◌, rules, sym, subst, ap, string_bytes, ◌∙◌, to_z, of_z, [], ◌∷◌}
use Rattle.std.specs.Int.{w64}
use Rattle.pg_expr.proofs.ScalarLemmas.{nothing_of_both}
use Rattle.pg_expr.specs.Operators.{truth_compared}
use Rattle.pg_expr.specs.Scalars.{scalar_view, BothTell, ThenTells}
use Rattle.pg_expr.specs.declared.scalar.Scalar.{Scalar}
use Rattle.pg_meaning.specs.Value.{integer, text}
use Rattle.pg_expr.proofs.scalar_operators.compared.Goals as goal

pub returns-in-Int : goal.returns-in-Int
returns-in-Int c =
    let same : to_z w64 (of_z w64 c.in-Int.x) ≡ c.in-Int.x = search rules in
    let told = scalar_view c.integer_compared.result in
    subst (λ (u : Scalar). BothTell (scalar_view u) (scalar_view c.args.w) told (λ x y. truth_compared x ((c.args.operator, y) ∷ []))) (sym c.in-Int.is)
    (subst (λ i. ThenTells (scalar_view c.args.w) told (λ y. truth_compared (integer i) ((c.args.operator, y) ∷ []))) same c.integer_compared.ensures)

pub returns-in-Text : goal.returns-in-Text
returns-in-Text c =
    let told = scalar_view c.text_compared.result in
    subst (λ (u : Scalar). BothTell (scalar_view u) (scalar_view c.args.w) told (λ x y. truth_compared x ((c.args.operator, y) ∷ []))) (sym c.in-Text.is)
    (subst (λ s. ThenTells (scalar_view c.args.w) told (λ y. truth_compared (text s) ((c.args.operator, y) ∷ []))) c.as_str.ensures.value c.text_compared.ensures)

pub returns-in-SharedText : goal.returns-in-SharedText
returns-in-SharedText c =
    let told = scalar_view c.text_compared-in-SharedText.result in
    subst (λ (u : Scalar). BothTell (scalar_view u) (scalar_view c.args.w) told (λ x y. truth_compared x ((c.args.operator, y) ∷ []))) (sym c.in-SharedText.is)
    (subst (λ s. ThenTells (scalar_view c.args.w) told (λ y. truth_compared (text s) ((c.args.operator, y) ∷ []))) (c.as_str-in-SharedText.ensures.value ∙ ap string_bytes c.as_ref.ensures) c.text_compared-in-SharedText.ensures)

pub returns-in-ShortText : goal.returns-in-ShortText
returns-in-ShortText c =
    let told = scalar_view c.text_compared-in-ShortText.result in
    subst (λ (u : Scalar). BothTell (scalar_view u) (scalar_view c.args.w) told (λ x y. truth_compared x ((c.args.operator, y) ∷ []))) (sym c.in-ShortText.is)
    (subst (λ s. ThenTells (scalar_view c.args.w) told (λ y. truth_compared (text s) ((c.args.operator, y) ∷ []))) c.as_str-in-ShortText.ensures.value c.text_compared-in-ShortText.ensures)

pub returns-in_default : goal.returns-in_default
returns-in_default c = nothing_of_both (scalar_view c.args.v) (scalar_view c.args.w) (λ x y. truth_compared x ((c.args.operator, y) ∷ []))
