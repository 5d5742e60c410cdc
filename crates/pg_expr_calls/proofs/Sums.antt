-- What `+` gives of a list and another value.
use Rattle.std.specs.declared.rc.Rc.{Rc}
use Rattle.std.proofs.Common.{◌≡◌, true, Vec, Global, rules, refl}
use Rattle.pg_expr_calls.specs.Sums.{have_no_sum}
use Rattle.pg_meaning.specs.Arithmetic.{plus, appended}
use Rattle.pg_meaning.specs.Measure.{made}
use Rattle.pg_meaning.specs.Value.{Value as Datum, list, item, no_items, Values}
use Rattle.pg_value_core.specs.Parts.{value_of_parts}
use Rattle.pg_value_core.specs.View.{view, values_view}
use Rattle.pg_value_core.specs.declared.parts.Parts.{Parts}
use Rattle.pg_value_core.specs.declared.parts.Parts.TheVariants as parts
use Rattle.pg_value_core.specs.declared.value.Value.{Value, Null, List, the_lemmas}

before_list : (v : Datum) (ws : Values) → have_no_sum v (list ws) ≡ true → plus v (list ws) ≡ made (list (item v ws))
before_list v ws h = search rules

pub sum_before_list : (v : Datum) (w : Value) (ys : Rc (Vec Value Global) Global) → w ≡ List ys → have_no_sum v (view w) ≡ true → plus v (view w) ≡ made (list (item v (values_view ys.value.items)))
sum_before_list v w ys e h = search (rules, before_list, the_lemmas)

sum_of_list : (vs : Values) (w : Value) → (w ≡ Null → ⊥) → ((xs : Rc (Vec Value Global) Global) → w ≡ List xs → ⊥) → plus (list vs) (view w) ≡ made (list (appended vs (item (view w) no_items)))
sum_of_list vs w no_null no_list = search (rules, the_lemmas)

-- a list and parts that are neither null nor a list
pub sum_with_parts : (vs : Values) (p : Parts) (w : Value) → value_of_parts p ≡ w → (p ≡ parts.Null → ⊥) → ((xs : Rc (Vec Value Global) Global) → p ≡ parts.List xs → ⊥) → plus (list vs) (view w) ≡ made (list (appended vs (item (view w) no_items)))
sum_with_parts vs parts.Null w is no_null no_list = absurd (no_null refl)
sum_with_parts vs (parts.Bool b) w is no_null no_list = sum_of_list vs w (λ e. cc) (λ xs e. cc)
sum_with_parts vs (parts.Int i) w is no_null no_list = sum_of_list vs w (λ e. cc) (λ xs e. cc)
sum_with_parts vs (parts.Text s) w is no_null no_list = sum_of_list vs w (λ e. cc) (λ xs e. cc)
sum_with_parts vs (parts.ShortText s) w is no_null no_list = sum_of_list vs w (λ e. cc) (λ xs e. cc)
sum_with_parts vs (parts.List v) w is no_null no_list = absurd (no_list v refl)
sum_with_parts vs (parts.Map m) w is no_null no_list = sum_of_list vs w (λ e. cc) (λ xs e. cc)
sum_with_parts vs (parts.Node n) w is no_null no_list = sum_of_list vs w (λ e. cc) (λ xs e. cc)
sum_with_parts vs (parts.Rel r) w is no_null no_list = sum_of_list vs w (λ e. cc) (λ xs e. cc)
sum_with_parts vs (parts.Path q) w is no_null no_list = sum_of_list vs w (λ e. cc) (λ xs e. cc)
