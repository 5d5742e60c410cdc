-- What conditions fix, as the program reads them.
use Rattle.std.proofs.Common.{◌≡◌, ℕ, Bool, true, false, not, cond, List, [], ◌∷◌, ◌++◌, Option, Some, None, refl, sym, ap, ◌∙◌, bytes_eq}
use Rattle.std.specs.Prelude.{◌&&◌, ◌||◌, flat_map}
use Rattle.std.proofs.lemmas.Bool.{true≢false}
use Rattle.std.proofs.lemmas.Slice.Eq.{bytes_eq-Decides}
use Rattle.pg_meaning.specs.Names.{Names, is_among}
use Rattle.pg_meaning.specs.Patterns.{nodes_of}
use Rattle.pg_meaning.specs.Plans as plans
use Rattle.pg_meaning.specs.Tree as tree
use Rattle.pg_plan.specs.Leads.{new_of, then_leads, leads_from}
use Rattle.pg_plan.specs.Places.{HasNames}

new_or : (e m a b : Bool) → (e ≡ true → a ≡ b) → ((not a && e) || (m && not b)) ≡ ((e || m) && not b)
new_or true true true true h = refl
new_or true true true false h = absurd (true≢false (h refl))
new_or true true false true h = absurd (true≢false (sym (h refl)))
new_or true true false false h = refl
new_or true false true true h = refl
new_or true false true false h = absurd (true≢false (h refl))
new_or true false false true h = absurd (true≢false (sym (h refl)))
new_or true false false false h = refl
new_or false m true b h = refl
new_or false m false b h = refl

one_more : (b : Bool) (x : List ℕ) (rest : Names) (name : List ℕ) → is_among (cond b [] (x ∷ []) ++ rest) name ≡ ((not b && bytes_eq name x) || is_among rest name)
one_more true x rest name = refl
one_more false x rest name = refl

-- the names that are not in scope
pub new_among : (scope ns : Names) (name : List ℕ) → is_among (flat_map (λ n. cond (is_among scope n) [] (n ∷ [])) ns) name ≡ (is_among ns name && not (is_among scope name))
new_among scope [] name = refl
new_among scope (x ∷ ns) name =
    let rest : Names = flat_map (λ n. cond (is_among scope n) [] (n ∷ [])) ns in
    one_more (is_among scope x) x rest name ∙ ap (λ b. (not (is_among scope x) && bytes_eq name x) || b) (new_among scope ns name)
    ∙ new_or (bytes_eq name x) (is_among ns name) (is_among scope x) (is_among scope name) (λ h. ap (is_among scope) (sym ((bytes_eq-Decides name x).0 h)))

step_is : (b : Bool) (f : plans.Fixed) (rest : List plans.Fixed) → then_leads (cond b (Some f) None) rest ≡ cond b (f ∷ rest) []
step_is true f rest = refl
step_is false f rest = refl

module _ (scope nodes : Names) (paths : List tree.PathPattern) (same : HasNames (flat_map nodes_of paths) nodes) where
  abbrev unbound : Names
  unbound = plans.unbound_names scope paths

  is_new : (name : List ℕ) → (is_among nodes name && not (is_among scope name)) ≡ is_among unbound name
  is_new name = ap (λ b. b && not (is_among scope name)) (same.is name) ∙ sym (new_among scope (plans.node_names (flat_map nodes_of paths)) name)

  by_fixed : (found : Option plans.Fixed) (es : List tree.Expression) → leads_from scope nodes es ≡ plans.leading unbound es
      → ◌≡◌ {A = List plans.Fixed} (then_leads (new_of scope nodes found) (leads_from scope nodes es)) (elim found [ None ↦ [] | Some f ↦ cond (is_among unbound f.name) (f ∷ plans.leading unbound es) [] ])
  by_fixed None es more = refl
  by_fixed (Some f) es more =
      step_is (is_among nodes f.name && not (is_among scope f.name)) f (leads_from scope nodes es)
      ∙ ap (λ b. cond b (f ∷ leads_from scope nodes es) []) (is_new f.name) ∙ ap (λ fs. cond (is_among unbound f.name) (f ∷ fs) []) more

  pub leads_are : (es : List tree.Expression) → leads_from scope nodes es ≡ plans.leading unbound es
  leads_are [] = refl
  leads_are (e ∷ es) = by_fixed (plans.fixed_by e) es (leads_are es)
