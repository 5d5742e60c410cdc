-- Wide rows of values stand for the projected rows of the definitions: DISTINCT and ORDER BY.
use Rattle.std.proofs.Common.{◌≡◌, ℕ, zero, suc, ◌+◌, ◌<◌, Bool, true, false, cond, List, [], ◌∷◌, ◌++◌, map, length, take, drop, Result, Ok, Err, Option, Some, None, refl, sym, ap, subst, ◌∙◌, arith}
use Rattle.std.proofs.Math.Seq.{take-length}
use Rattle.std.proofs.lemmas.Iterator.Adapters.{position_from-zero}
use Rattle.std.specs.List.{AllByRecursion, position_from}
use Rattle.std.specs.Prelude.{zip, position, slice_get, slice_index_or, option_to_list}
use Rattle.pg_meaning.specs.Answer.{◌>>=◌, each_answer}
use Rattle.pg_meaning.specs.Expressions.{evaluate}
use Rattle.pg_meaning.specs.Graph.{Graph}
use Rattle.pg_meaning.specs.Meters.{Setting}
use Rattle.pg_meaning.specs.Projections.{Projected, distinct_rows, sort_key, keyed, sorted_keyed, ordered_rows, visible}
use Rattle.pg_meaning.specs.Rows.{values_in}
use Rattle.pg_meaning.specs.Scopes.{Column}
use Rattle.pg_meaning.specs.Tree.{Expression, SortItem}
use Rattle.pg_meaning.specs.Trees.{same_expression}
use Rattle.pg_meaning.specs.Value.{Value, null}
use Rattle.pg_meaning.specs.declared.fault.Fault.{Fault}
use Rattle.pg_rows.proofs.FirstRows.{firsts_at_places}
use Rattle.pg_rows.proofs.NamedRows.{values_are}
use Rattle.pg_rows.proofs.Orders.{sorts_by_keys}
use Rattle.pg_rows.proofs.Places.{firsts_below}
use Rattle.pg_rows.proofs.Stable.{sorted_map}
use Rattle.pg_rows.specs.Laws.{AllLong, items_at}
use Rattle.pg_rows.specs.Sorts.{directions, keyed_below, numbered, sorted_by, sorted_places}
use Rattle.pg_rows.specs.Tables.{first_places, rows_at_places, EachBelow}
use Rattle.pg_project.proofs.EachAnswer.{each_mapped, each_is, as_many, by_case}
use Rattle.pg_project.proofs.Standing.{seen_as, value_in_first}
use Rattle.pg_project.specs.Items.{columns_of}
use Rattle.pg_project.specs.Given.{distinct_given, sort_source, chosen_key, key_given, keys_given, all_keys_given, ordered_given}
use Rattle.pg_project.specs.Parts.{stands}

-- ---- DISTINCT

got : {X : Type 0} (xs : List X) (i : ℕ) (d : X) → i < length xs → slice_get xs i ≡ Some (slice_index_or xs i d)
got [] i d h = absurd (omega (arith, h))
got (x ∷ xs) zero d h = refl
got (x ∷ xs) (suc i) d h = got xs i d (omega arith)

got_mapped : {X Y : Type 0} (f : X → Y) (xs : List X) (i : ℕ) (d : X) → i < length xs → slice_get (map f xs) i ≡ Some (f (slice_index_or xs i d))
got_mapped f [] i d h = absurd (omega (arith, h))
got_mapped f (x ∷ xs) zero d h = refl
got_mapped f (x ∷ xs) (suc i) d h = got_mapped f xs i d (omega arith)

items_stand : {Y : Type 0} (f : List Value → Y) (ws : List (List Value)) (ps : List ℕ) → EachBelow (length ws) ps → items_at (map f ws) ps ≡ map f (rows_at_places ws ps)
items_stand f ws [] h = refl
items_stand f ws (p ∷ ps) h = λ i. option_to_list (got_mapped f ws p [] h.0 i) ++ items_stand f ws ps h.1 i

module _ (columns : List (List ℕ)) where
  values_stand : (w : List Value) → length w ≡ length columns → values_in (zip columns (take (length columns) w)) ≡ w
  values_stand w h = let whole : take (length columns) w ≡ w = ap (λ n. take n w) (sym h) ∙ take-length w in ap (λ u. values_in (zip columns u)) whole ∙ values_are columns w h

  all_stand : (earlier : List (List ℕ)) (ws : List (List Value)) → AllByRecursion (λ w. length w ≡ length columns) ws → map (λ (p : Projected). values_in p.columns) (map (stands columns earlier) ws) ≡ ws
  all_stand earlier [] h = refl
  all_stand earlier (w ∷ ws) h = λ i. values_stand w h.0 i ∷ all_stand earlier ws h.1 i

  pub distinct_stand : (earlier : List (List ℕ)) (ws : List (List Value)) → AllByRecursion (λ w. length w ≡ length columns) ws → distinct_rows true (map (stands columns earlier) ws) ≡ map (stands columns earlier) (distinct_given true ws)
  distinct_stand earlier ws h =
      firsts_at_places (map (stands columns earlier) ws)
      ∙ ap (λ us. items_at (map (stands columns earlier) ws) (first_places [] 0 us)) (all_stand earlier ws h)
      ∙ items_stand (stands columns earlier) ws (first_places [] 0 ws) (firsts_below (length ws) [] ws 0 (omega arith))

-- ---- the key of a sort

found_in : (t : Expression → Bool) (i : ℕ) (ns : List (List ℕ)) (es : List Expression) → length ns ≡ length es → position_from (λ (c : Column). t c.value) i (columns_of ns es) ≡ position_from t i es
found_in t i [] [] h = refl
found_in t i [] (e ∷ es) h = absurd (omega arith)
found_in t i (n ∷ ns) [] h = absurd (omega arith)
found_in t i (n ∷ ns) (e ∷ es) h = ap (cond (t e) (Some i)) (found_in t (i + 1) ns es (omega arith))

abbrev pub IsWithin : ℕ → Option ℕ → Type 0
IsWithin n None = Unit {0}
IsWithin n (Some i) = i < n

pub within : {X : Type 0} (t : X → Bool) (i : ℕ) (xs : List X) → IsWithin (i + length xs) (position_from t i xs)
within t i [] = tt
within t i (x ∷ xs) = by (t x) (position_from t (i + 1) xs) (subst (λ n. IsWithin n (position_from t (i + 1) xs)) (omega arith) (within t (i + 1) xs))
  where
    by : (b : Bool) (o : Option ℕ) → IsWithin (i + suc (length xs)) o → IsWithin (i + suc (length xs)) (cond b (Some i) o)
    by true o h = omega arith
    by false o h = h

module _ (s : Setting) (graph : Graph) (columns earlier : List (List ℕ)) (es : List Expression) (same : length columns ≡ length es) where
  place_is : (t : Expression → Bool) → position (λ (c : Column). t c.value) (columns_of columns es) ≡ position_from t 0 es
  place_is t = position_from-zero (λ (c : Column). t c.value) (columns_of columns es) ∙ found_in t 0 columns es same

  key_at : (w : List Value) (e : Expression) (o : Option ℕ) → IsWithin (length columns) o
      → (elim o [ Some i ↦ elim (slice_get (stands columns earlier w).columns i) [ Some b ↦ Ok b.1 | None ↦ Ok null ] | None ↦ evaluate (visible (stands columns earlier w)) s.parameters graph e ])
      ≡ key_given s.parameters graph (columns ++ earlier) w (chosen_key e o)
  key_at w e (Some i) h = value_in_first columns w i h
  key_at w e None h = ap (λ row. evaluate row s.parameters graph e) (seen_as columns earlier w)

  pub one_key : (w : List Value) (o : SortItem) → sort_key s.parameters graph (columns_of columns es) (stands columns earlier w) o ≡ key_given s.parameters graph (columns ++ earlier) w (sort_source es o.key)
  one_key w o =
      let t : Expression → Bool = λ x. same_expression x o.key in
      (λ i. elim (place_is t i) [
        | Some n ↦ elim (slice_get (stands columns earlier w).columns n) [ Some b ↦ Ok b.1 | None ↦ Ok null ]
        | None ↦ evaluate (visible (stands columns earlier w)) s.parameters graph o.key
      ])
      ∙ key_at w o.key (position_from t 0 es) (subst (λ n. IsWithin n (position_from t 0 es)) (let e : 0 + length es ≡ length columns = omega arith in e) (within t 0 es))
      ∙ ap (λ p. key_given s.parameters graph (columns ++ earlier) w (chosen_key o.key p)) (sym (position_from-zero t es))

  module _ (order : List SortItem) where
    row_keys : (w : List Value) → keyed s graph (columns_of columns es) order (stands columns earlier w) ≡ (keys_given s.parameters graph (columns ++ earlier) (map (λ x. sort_source es x.key) order) w >>= λ vs. Ok (vs, stands columns earlier w))
    row_keys w = ap (λ a. a >>= λ vs. Ok (vs, stands columns earlier w)) (each_mapped (key_given s.parameters graph (columns ++ earlier) w) (λ (x : SortItem). sort_source es x.key) (sort_key s.parameters graph (columns_of columns es) (stands columns earlier w)) (one_key w) order)

    all_keys : (ws : List (List Value)) → each_answer (keyed s graph (columns_of columns es) order) (map (stands columns earlier) ws)
        ≡ (all_keys_given s.parameters graph (columns ++ earlier) (map (λ x. sort_source es x.key) order) ws >>= λ ks. Ok (zip ks (map (stands columns earlier) ws)))
    all_keys [] = refl
    all_keys (w ∷ ws) =
        (λ i. row_keys w i >>= λ y. all_keys ws i >>= λ ys. Ok (y ∷ ys))
        ∙ by (keys_given s.parameters graph (columns ++ earlier) (map (λ x. sort_source es x.key) order) w) (all_keys_given s.parameters graph (columns ++ earlier) (map (λ x. sort_source es x.key) order) ws)
      where
        by : (a : Result (List Value) Fault) (rest : Result (List (List Value)) Fault)
            → ((a >>= λ vs. Ok (vs, stands columns earlier w)) >>= λ y. (rest >>= λ ks. Ok (zip ks (map (stands columns earlier) ws))) >>= λ ys. Ok (y ∷ ys))
            ≡ ((a >>= λ k. rest >>= λ ks. Ok (k ∷ ks)) >>= λ ks. Ok (zip ks (map (stands columns earlier) (w ∷ ws))))
        by (Ok vs) (Ok ks) = refl
        by (Ok vs) (Err f) = refl
        by (Err f) rest = refl

-- ---- sorted rows

dropped_first : {X : Type 0} (n : ℕ) (xs : List X) (x d : X) (ys : List X) → drop n xs ≡ x ∷ ys → slice_index_or xs n d ≡ x
dropped_first zero [] x d ys h = cc
dropped_first (suc n) [] x d ys h = cc
dropped_first zero (z ∷ zs) x d ys h = cc
dropped_first (suc n) (z ∷ zs) x d ys h = dropped_first n zs x d ys h

dropped_rest : {X : Type 0} (n : ℕ) (xs : List X) (x : X) (ys : List X) → drop n xs ≡ x ∷ ys → drop (suc n) xs ≡ ys
dropped_rest zero [] x ys h = cc
dropped_rest (suc n) [] x ys h = cc
dropped_rest zero (z ∷ zs) x ys h = cc
dropped_rest (suc n) (z ∷ zs) x ys h = dropped_rest n zs x ys h

module _ (f : List Value → Projected) (whole : List (List Value)) where
  abbrev placed : List Value × ℕ → List Value × Projected
  placed k = (k.0, f (slice_index_or whole k.1 []))

  numbered_rows : (n : ℕ) (ks ws : List (List Value)) → drop n whole ≡ ws → length ks ≡ length ws → map placed (numbered n ks) ≡ zip ks (map f ws)
  numbered_rows n [] ws h l = refl
  numbered_rows n (k ∷ ks) [] h l = absurd (omega arith)
  numbered_rows n (k ∷ ks) (w ∷ ws) h l = λ i. (k, f (dropped_first n whole w [] ws h i)) ∷ numbered_rows (suc n) ks ws (dropped_rest n whole w ws h) (let e : length ks ≡ length ws = omega arith in e) i

  of_places : (xs : List (List Value × ℕ)) → map (λ (k : List Value × Projected). k.1) (map placed xs) ≡ map f (rows_at_places whole (map (λ (k : List Value × ℕ). k.1) xs))
  of_places [] = refl
  of_places (x ∷ xs) = ap (λ rest. f (slice_index_or whole x.1 []) ∷ rest) (of_places xs)

  sorted_rows : (ds : List Bool) (ks : List (List Value)) → length ks ≡ length whole → map (λ (k : List Value × Projected). k.1) (sorted_by (keyed_below ds) (zip ks (map f whole))) ≡ map f (rows_at_places whole (sorted_places ds ks))
  sorted_rows ds ks l =
      ap (λ xs. map (λ (k : List Value × Projected). k.1) (sorted_by (keyed_below ds) xs)) (sym (numbered_rows 0 ks whole refl l))
      ∙ ap (map (λ (k : List Value × Projected). k.1)) (sorted_map placed (keyed_below ds) (numbered 0 ks))
      ∙ of_places (sorted_by (keyed_below ds) (numbered 0 ks))

  all_long : (n : ℕ) (ks ws : List (List Value)) → AllByRecursion (λ k. length k ≡ n) ks → AllLong n (zip ks (map f ws))
  all_long n [] ws h = tt
  all_long n (k ∷ ks) [] h = tt
  all_long n (k ∷ ks) (w ∷ ws) h = (h.0, all_long n ks ws h.1)

  pub sorted_stand : (order : List SortItem) (ks : List (List Value)) → AllByRecursion (λ k. length k ≡ length order) ks → length ks ≡ length whole
      → map (λ (k : List Value × Projected). k.1) (sorted_keyed order (zip ks (map f whole))) ≡ map f (rows_at_places whole (sorted_places (directions order) ks))
  sorted_stand order ks h l =
      ap (map (λ (k : List Value × Projected). k.1)) (sorts_by_keys order (zip ks (map f whole)) (all_long (length order) ks whole h))
      ∙ sorted_rows (directions order) ks l

module _ (s : Setting) (graph : Graph) (columns earlier : List (List ℕ)) (es : List Expression) (same : length columns ≡ length es) where
  same_long : {X Y : Type 0} (f : X → Y) (xs : List X) → length (map f xs) ≡ length xs
  same_long f [] = refl
  same_long f (x ∷ xs) = ap suc (same_long f xs)

  pub ordered_stand : (order : List SortItem) (ws : List (List Value))
      → ordered_rows s graph (columns_of columns es) order (map (stands columns earlier) ws) ≡ (ordered_given s.parameters graph (columns ++ earlier) es order ws >>= λ us. Ok (map (stands columns earlier) us))
  ordered_stand [] ws = refl
  ordered_stand (o ∷ os) ws =
      let keys = map (λ (x : SortItem). sort_source es x.key) (o ∷ os) in
      ap (λ a. a >>= λ ks. Ok (map (λ (k : List Value × Projected). k.1) (sorted_keyed (o ∷ os) ks))) (all_keys s graph columns earlier es same (o ∷ os) ws)
      ∙ by_case
      (λ a. ((a >>= λ ks. Ok (zip ks (map (stands columns earlier) ws))) >>= λ ks. Ok (map (λ (k : List Value × Projected). k.1) (sorted_keyed (o ∷ os) ks)))
      ≡ ((a >>= λ ks. Ok (rows_at_places ws (sorted_places (directions (o ∷ os)) ks))) >>= λ us. Ok (map (stands columns earlier) us)))
      (all_keys_given s.parameters graph (columns ++ earlier) keys ws)
      (λ ks e. ap Ok (sorted_stand (stands columns earlier) ws (o ∷ os) ks
      (each_is (keys_given s.parameters graph (columns ++ earlier) keys) (λ k. length k ≡ length (o ∷ os))
      (λ w k h. as_many (key_given s.parameters graph (columns ++ earlier) w) keys k h ∙ same_long (λ (x : SortItem). sort_source es x.key) (o ∷ os)) ws ks e)
      (as_many (keys_given s.parameters graph (columns ++ earlier) keys) ws ks e)))
      (λ f e. refl)
