-- Wide rows of values stand for the projected rows of the definitions: items.
use Rattle.std.proofs.Common.{◌≡◌, ℕ, zero, suc, ◌<◌, Bool, true, false, not, cond, List, [], ◌∷◌, ◌++◌, map, length, take, drop, Result, Ok, Err, Some, None, refl, sym, ap, ◌∙◌, arith}
use Rattle.std.proofs.Math.Seq.{take-append_seam, drop-append_seam}
use Rattle.std.specs.Prelude.{zip, slice_get, slice_index_or}
use Rattle.pg_meaning.specs.Answer.{◌>>=◌, each_answer}
use Rattle.pg_meaning.specs.Expressions.{evaluate}
use Rattle.pg_meaning.specs.Graph.{Graph}
use Rattle.pg_meaning.specs.Meters.{Setting}
use Rattle.pg_meaning.specs.Projections.{Projected, projected, column_value, visible}
use Rattle.pg_meaning.specs.Rows.{Row}
use Rattle.pg_meaning.specs.Tree.{Expression}
use Rattle.pg_meaning.specs.Value.{Value, null}
use Rattle.pg_meaning.specs.declared.fault.Fault.{Fault}
use Rattle.pg_rows.specs.Named.{row_of, rows_named}
use Rattle.pg_project.proofs.EachAnswer.{each_seen, as_many, by_case}
use Rattle.pg_project.specs.Items.{columns_of}
use Rattle.pg_project.specs.Given.{values_given, wide_given, wide_rows_given}
use Rattle.pg_project.specs.Parts.{stands}

no_pairs : {X Y : Type 0} (xs : List X) → zip {K = X} {X = Y} xs [] ≡ []
no_pairs [] = refl
no_pairs (x ∷ xs) = refl

none_dropped : {X : Type 0} (n : ℕ) → drop {A = X} n [] ≡ []
none_dropped zero = refl
none_dropped (suc n) = refl

-- the names behind one another stand over the values
pub seen_as : (columns earlier : List (List ℕ)) (w : List Value) → visible (stands columns earlier w) ≡ row_of (columns ++ earlier) w
seen_as [] earlier w = refl
seen_as (n ∷ ns) earlier [] = ap (λ u. zip earlier u) (none_dropped (suc (length ns))) ∙ no_pairs earlier
seen_as (n ∷ ns) earlier (v ∷ vs) = ap (λ row. (n, v) ∷ row) (seen_as ns earlier vs)

pub value_in_first : (ns : List (List ℕ)) (vs : List Value) (i : ℕ) → i < length ns
    → ◌≡◌ {A = Result Value Fault} (elim (slice_get (zip ns (take (length ns) vs)) i) [ Some b ↦ Ok b.1 | None ↦ Ok null ]) (Ok (slice_index_or vs i null))
value_in_first [] vs i h = absurd (omega (arith, h))
value_in_first (n ∷ ns) [] zero h = refl
value_in_first (n ∷ ns) [] (suc i) h = refl
value_in_first (n ∷ ns) (v ∷ vs) zero h = refl
value_in_first (n ∷ ns) (v ∷ vs) (suc i) h = value_in_first ns vs i (omega arith)

module _ (s : Setting) (graph : Graph) where
  pub pairs_of : (row : Row) (ns : List (List ℕ)) (es : List Expression) → length ns ≡ length es
      → each_answer (column_value s.parameters graph row) (columns_of ns es) ≡ (each_answer (λ e. evaluate row s.parameters graph e) es >>= λ vs. Ok (zip ns vs))
  pairs_of row [] [] h = refl
  pairs_of row [] (e ∷ es) h = absurd (omega arith)
  pairs_of row (n ∷ ns) [] h = absurd (omega arith)
  pairs_of row (n ∷ ns) (e ∷ es) h =
      let same : length ns ≡ length es = omega arith in
      (λ i. (evaluate row s.parameters graph e >>= λ v. Ok (n, v)) >>= λ y. pairs_of row ns es same i >>= λ ys. Ok (y ∷ ys))
      ∙ by (evaluate row s.parameters graph e) (each_answer (λ x. evaluate row s.parameters graph x) es)
    where
      by : (a : Result Value Fault) (rest : Result (List Value) Fault)
          → ((a >>= λ v. Ok (n, v)) >>= λ y. (rest >>= λ vs. Ok (zip ns vs)) >>= λ ys. Ok (y ∷ ys)) ≡ ((a >>= λ y. rest >>= λ ys. Ok (y ∷ ys)) >>= λ vs. Ok (zip (n ∷ ns) vs))
      by (Ok v) (Ok vs) = refl
      by (Ok v) (Err f) = refl
      by (Err f) rest = refl

  module _ (columns names : List (List ℕ)) (es : List Expression) (distinct : Bool) (same : length columns ≡ length es) where
    abbrev pub behind : List (List ℕ)
    behind = cond (not distinct) names []

    put : (d : Bool) (row vs : List Value) → length vs ≡ length columns
        → (let p : Projected = record { columns = zip columns vs; earlier = cond d [] (row_of names row) } in p) ≡ stands columns (cond (not d) names []) (vs ++ cond (not d) row [])
    put true row vs h = λ i. record {
      columns = zip columns (front i);
      earlier = [];
    }
      where
        front : vs ≡ take (length columns) (vs ++ [])
        front = sym (ap (λ n. take n (vs ++ [])) (sym h) ∙ take-append_seam vs [])
    put false row vs h = λ i. record {
      columns = zip columns (front i);
      earlier = zip names (back i);
    }
      where
        front : vs ≡ take (length columns) (vs ++ row)
        front = sym (ap (λ n. take n (vs ++ row)) (sym h) ∙ take-append_seam vs row)

        back : row ≡ drop (length columns) (vs ++ row)
        back = sym (ap (λ n. drop n (vs ++ row)) (sym h) ∙ drop-append_seam vs row)

    one_row : (row : List Value) → projected s.parameters graph distinct (columns_of columns es) (row_of names row) ≡ (wide_given s.parameters graph names es (not distinct) row >>= λ w. Ok (stands columns behind w))
    one_row row =
        ap (λ a. a >>= λ vs. Ok (record { columns = vs; earlier = cond distinct [] (row_of names row) })) (pairs_of (row_of names row) columns es same)
        ∙ by_case
        (λ a. ((a >>= λ vs. Ok (zip columns vs)) >>= λ vs. let r : Result Projected Fault = Ok (record { columns = vs; earlier = cond distinct [] (row_of names row) }) in r) ≡ ((a >>= λ vs. Ok (vs ++ cond (not distinct) row [])) >>= λ w. Ok (stands columns behind w)))
        (values_given s.parameters graph names es row)
        (λ vs e. ap Ok (put distinct row vs (as_many (λ x. evaluate (row_of names row) s.parameters graph x) es vs e ∙ sym same)))
        (λ f e. refl)

    pub all_rows : (rows : List (List Value)) → each_answer (projected s.parameters graph distinct (columns_of columns es)) (rows_named names rows) ≡ (wide_rows_given s.parameters graph names es (not distinct) rows >>= λ ws. Ok (map (stands columns behind) ws))
    all_rows rows = each_seen (projected s.parameters graph distinct (columns_of columns es)) (row_of names) (wide_given s.parameters graph names es (not distinct)) (stands columns behind) one_row rows
