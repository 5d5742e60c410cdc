-- Wide rows of values stand for the projected rows of the definitions: SKIP, LIMIT and WHERE.
use Rattle.std.proofs.Common.{◌≡◌, ℕ, zero, suc, Bool, true, false, List, [], ◌∷◌, ◌++◌, map, length, take, drop, Result, Ok, Err, Option, Some, None, refl, ap, ◌∙◌, arith}
use Rattle.std.proofs.lemmas.List.{drop-map, take-map}
use Rattle.pg_meaning.specs.Answer.{◌>>=◌}
use Rattle.pg_meaning.specs.Conditions.{condition}
use Rattle.pg_meaning.specs.Graph.{Graph}
use Rattle.pg_meaning.specs.Meters.{Setting}
use Rattle.pg_meaning.specs.Projections.{Projected, limited, passing_rows}
use Rattle.pg_meaning.specs.Rows.{Row}
use Rattle.pg_meaning.specs.Tree.{Expression}
use Rattle.pg_meaning.specs.Value.{Value}
use Rattle.pg_meaning.specs.declared.fault.Fault.{Fault}
use Rattle.pg_rows.specs.Named.{row_of, rows_named}
use Rattle.pg_project.proofs.InTurn.{drop_none}
use Rattle.pg_project.proofs.Standing.{seen_as}
use Rattle.pg_project.specs.Given.{Cut, cut_of, passing_given}
use Rattle.pg_project.specs.Parts.{stands}

pub limited_map : {X Y : Type 0} (f : X → Y) (n : Option ℕ) (xs : List X) → limited n (map f xs) ≡ map f (limited n xs)
limited_map f None xs = refl
limited_map f (Some n) xs = take-map f n xs

pub cut_map : {X Y : Type 0} (f : X → Y) (c : Cut) (xs : List X) → limited c.limit (drop c.skip (map f xs)) ≡ map f (limited c.limit (drop c.skip xs))
cut_map f c xs = ap (limited c.limit) (drop-map f c.skip xs) ∙ limited_map f c.limit (drop c.skip xs)

none_limited : {X : Type 0} (limit : Option ℕ) → limited {X = X} limit [] ≡ []
none_limited None = refl
none_limited (Some zero) = refl
none_limited (Some (suc n)) = refl

pub none_cut : (c : Cut) → cut_of c [] ≡ []
none_cut c = ap (limited c.limit) (drop_none [] c.skip (omega arith)) ∙ none_limited c.limit

module _ (s : Setting) (graph : Graph) (where_ : Option Expression) (columns earlier : List (List ℕ)) where
  pub passing_stand : (ws : List (List Value))
      → (passing_rows s graph where_ (map (stands columns earlier) ws) >>= λ kept. Ok (map (λ (r : Projected). r.columns) kept)) ≡ (passing_given s.parameters graph (columns ++ earlier) where_ (length columns) ws >>= λ found. Ok (rows_named columns found))
  passing_stand [] = refl
  passing_stand (w ∷ ws) =
      ap (λ row. (condition where_ row s.parameters graph >>= λ b. passing_rows s graph where_ (map (stands columns earlier) ws) >>= λ others. Ok (elim b [ true ↦ stands columns earlier w ∷ others | false ↦ others ])) >>= λ kept. Ok (map (λ (r : Projected). r.columns) kept))
      (seen_as columns earlier w)
      ∙ by (condition where_ (row_of (columns ++ earlier) w) s.parameters graph) (passing_rows s graph where_ (map (stands columns earlier) ws)) (passing_given s.parameters graph (columns ++ earlier) where_ (length columns) ws) (passing_stand ws)
    where
      each : (b : Bool) (rest : Result (List Projected) Fault) (found : Result (List (List Value)) Fault)
          → (rest >>= λ kept. Ok (map (λ (r : Projected). r.columns) kept)) ≡ (found >>= λ rows. Ok (rows_named columns rows))
          → ((rest >>= λ others. Ok (elim b [ true ↦ stands columns earlier w ∷ others | false ↦ others ])) >>= λ kept. Ok (map (λ (r : Projected). r.columns) kept))
          ≡ ((found >>= λ others. Ok (elim b [ true ↦ take (length columns) w ∷ others | false ↦ others ])) >>= λ rows. Ok (rows_named columns rows))
      each true (Ok kept) (Ok rows) h = ap (λ a. a >>= λ rs. Ok (row_of columns (take (length columns) w) ∷ rs)) h
      each true (Err f) (Err g) h = ap (λ a. a >>= λ (rs : List Row). Ok (row_of columns (take (length columns) w) ∷ rs)) h
      each true (Ok kept) (Err g) h = ap (λ a. a >>= λ rs. Ok (row_of columns (take (length columns) w) ∷ rs)) h
      each true (Err f) (Ok rows) h = ap (λ a. a >>= λ rs. Ok (row_of columns (take (length columns) w) ∷ rs)) h
      each false (Ok kept) (Ok rows) h = h
      each false (Err f) (Err g) h = h
      each false (Ok kept) (Err g) h = h
      each false (Err f) (Ok rows) h = h

      by : (a : Result Bool Fault) (rest : Result (List Projected) Fault) (found : Result (List (List Value)) Fault)
          → (rest >>= λ kept. Ok (map (λ (r : Projected). r.columns) kept)) ≡ (found >>= λ rows. Ok (rows_named columns rows))
          → ((a >>= λ b. rest >>= λ others. Ok (elim b [ true ↦ stands columns earlier w ∷ others | false ↦ others ])) >>= λ kept. Ok (map (λ (r : Projected). r.columns) kept))
          ≡ ((a >>= λ b. found >>= λ others. Ok (elim b [ true ↦ take (length columns) w ∷ others | false ↦ others ])) >>= λ rows. Ok (rows_named columns rows))
      by (Ok b) rest found h = each b rest found h
      by (Err f) rest found h = refl
