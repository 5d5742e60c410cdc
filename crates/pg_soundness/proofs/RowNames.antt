-- The names that a row binds, as it is extended.
use Rattle.std.proofs.Common.{◌≡◌, ℕ, Bool, true, false, cond, ◌||◌, List, [], ◌∷◌, ◌++◌, Option, Some, None, is_some, bytes_eq, refl, sym, ap, ◌∙◌}
use Rattle.pg_meaning.specs.Names.{Names, is_among, add_name}
use Rattle.pg_meaning.specs.Patterns.{add_if_named}
use Rattle.pg_meaning.specs.Rows.{Row, value_in, bind_new, bind_if_named}
use Rattle.pg_meaning.specs.Value.{Value}

-- ---- names that a row binds

abbrev pub BindsOnly : Names → Row → Type 0
BindsOnly scope row = (name : List ℕ) → is_some (value_in name row) ≡ is_among scope name

bound_behind : (q name : List ℕ) (v : Value) (row : Row) → is_some (value_in q (row ++ (name, v) ∷ [])) ≡ (is_some (value_in q row) || bytes_eq q name)
bound_behind q name v [] = elim (bytes_eq q name) as (λ b. is_some (cond b (Some v) (let none : Option Value = None in none)) ≡ b) [ true ↦ refl | false ↦ refl ]
bound_behind q name v (b ∷ row) =
    elim (bytes_eq q b.0) as (λ c. is_some (cond c (Some b.1) (value_in q (row ++ (name, v) ∷ []))) ≡ (is_some (cond c (Some b.1) (value_in q row)) || bytes_eq q name)) [
      | true ↦ refl
      | false ↦ bound_behind q name v row
    ]

pub among_behind : (q name : List ℕ) (names : Names) → is_among (names ++ name ∷ []) q ≡ (is_among names q || bytes_eq q name)
among_behind q name [] = elim (bytes_eq q name) as (λ b. (b || false) ≡ b) [ true ↦ refl | false ↦ refl ]
among_behind q name (m ∷ names) =
    elim (bytes_eq q m) as (λ c. (c || is_among (names ++ name ∷ []) q) ≡ ((c || is_among names q) || bytes_eq q name)) [ true ↦ refl | false ↦ among_behind q name names ]

pub binds_new : (scope : Names) (row : Row) (name : List ℕ) (v : Value) → BindsOnly scope row → BindsOnly (add_name scope name) (bind_new name v row)
binds_new scope row name v h = by_name (is_among scope name) (is_some (value_in name row)) (h name)
  where
    by_name : (a b : Bool) → b ≡ a → BindsOnly (cond a scope (scope ++ name ∷ [])) (cond b row (row ++ (name, v) ∷ []))
    by_name true true e = h
    by_name true false e = cc
    by_name false true e = cc
    by_name false false e = λ q. bound_behind q name v row ∙ ap (λ c. c || bytes_eq q name) (h q) ∙ sym (among_behind q name scope)

pub binds_if_named : (scope : Names) (row : Row) (name : Option (List ℕ)) (v : Value) → BindsOnly scope row → BindsOnly (add_if_named name scope) (bind_if_named name v row)
binds_if_named scope row None v h = h
binds_if_named scope row (Some name) v h = binds_new scope row name v h
