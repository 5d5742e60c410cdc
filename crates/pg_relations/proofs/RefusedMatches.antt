-- What no MATCH gives.
use Rattle.std.proofs.Common.{◌≡◌, Bool, true, Result, Ok, Err, List, [], ◌∷◌, ◌++◌, map, refl, sym, ◌∙◌}
use Rattle.std.specs.declared.cmp.Ordering.TheVariants.{Less, Greater}
use Rattle.pg_meaning.specs.ExamplesOfFits.{alone, at_zero, alone_fits}
use Rattle.pg_meaning.specs.Graph.{empty_graph}
use Rattle.pg_meaning.specs.Patterns.{Assignment, bind_match}
use Rattle.pg_meaning.specs.Reading.{or_nulls}
use Rattle.pg_meaning.specs.Value.{Value}
use Rattle.pg_meaning.specs.declared.fault.Fault.{Fault}
use Rattle.pg_meaning.specs.declared.fault.Fault.TheVariants.{DivisionByZero, DeletedEntity}
use Rattle.pg_relations.proofs.RefusedProjections.{emptied}
use Rattle.pg_relations.specs.RefusedSteps.{RefusedMatches}

falls : Greater ≡ Less → ⊥
falls e = cc

pub no_row : {X : Type 0} (x : X) (xs : List X) → [] ≡ x ∷ xs → ⊥
no_row x xs e = cc

pub no_row_joined : {X : Type 0} (first others : List X) → [] ≡ first ++ others → first ≡ []
no_row_joined [] others e = refl
no_row_joined (x ∷ xs) others e = absurd (no_row x (xs ++ others) e)

-- the row with a null stands where nothing is found
some_or_null : (found : List Assignment) → [] ≡ or_nulls true (alone ∷ []) [] (map (λ a. bind_match empty_graph (alone ∷ []) a []) found) → ⊥
some_or_null [] e = no_row _ _ e
some_or_null (a ∷ as_) e = no_row _ _ e

pub refused_matches : RefusedMatches
refused_matches = (
  (λ l. falls l.rising.0.0),
  (λ s. some_or_null s.1.2.found (sym (no_row_joined s.1.0 s.1.1 s.1.4) ∙ s.1.2.bound)),
  (λ results s. emptied s.0),
  (λ results m. let b = m.decided at_zero alone_fits in no_condition b.0 b.1),
  (λ results m. no_test m.live.0),
  (λ results m. no_value m.evaluated.0.0 m.evaluated.0.1),
)
  where
    no_condition : (b : Bool) → ◌≡◌ {A = Result Bool Fault} (Err DivisionByZero) (Ok b) → ⊥
    no_condition b e = cc

    no_test : ◌≡◌ {A = Result (Unit {0}) Fault} (Err DeletedEntity) (Ok tt) → ⊥
    no_test e = cc

    no_value : (v : Value) → ◌≡◌ {A = Result Value Fault} (Err DivisionByZero) (Ok v) → ⊥
    no_value v e = cc
