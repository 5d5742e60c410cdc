-- A row that stands twice, under names that stand twice, is seen as it is seen once.
use Rattle.std.proofs.Common.{◌≡◌, ℕ, zero, suc, ◌+◌, ◌<◌, Bool, true, false, cond, List, [], ◌∷◌, ◌++◌, map, length, take, drop, Result, Ok, Err, Option, Some, None, refl, sym, ap, subst, ◌∙◌, arith}
use Rattle.std.proofs.Math.Seq.{take-length, take-append_seam}
use Rattle.std.proofs.lemmas.Iterator.Adapters.{position_from-zero}
use Rattle.std.specs.List.{AllByRecursion, position_from}
use Rattle.std.specs.Map.{lookup}
use Rattle.std.specs.Prelude.{bytes_eq, position, slice_index_or, zip}
use Rattle.pg_meaning.specs.Answer.{◌>>=◌}
use Rattle.pg_meaning.specs.Graph.{Graph}
use Rattle.pg_meaning.specs.Projections.{limited}
use Rattle.pg_meaning.specs.Rows.{Row}
use Rattle.pg_meaning.specs.Tree.{Expression, SortItem}
use Rattle.pg_meaning.specs.Trees.{same_expression}
use Rattle.pg_meaning.specs.Value.{Value, null, Entries}
use Rattle.pg_meaning.specs.declared.fault.Fault.{Fault}
use Rattle.pg_rows.specs.Named.{row_of}
use Rattle.pg_rows.specs.Sorts.{directions, sorted_places}
use Rattle.pg_rows.specs.Tables.{rows_at_places}
use Rattle.pg_project.proofs.AlikeRows.{Alike, same_value, same_condition}
use Rattle.pg_project.proofs.Arranged.{IsWithin, within}
use Rattle.pg_project.proofs.Kept.{cut_map}
use Rattle.pg_project.specs.Given.{Cut, all_keys_given, chosen_key, cut_of, key_given, keys_given, passing_given, sort_source, tail_given}

abbrev pub twice : {X : Type 0} → List X → List X
twice xs = xs ++ xs

-- ---- what the names stand for

abbrev or_else : Option Value → Option Value → Option Value
or_else (Some v) o = Some v
or_else None o = o

found_in : (t : List ℕ → Bool) (row more : Row) → lookup t (row ++ more) ≡ or_else (lookup t row) (lookup t more)
found_in t [] more = refl
found_in t (b ∷ bs) more = by (t b.0) (found_in t bs more)
  where
    by : (c : Bool) → lookup t (bs ++ more) ≡ or_else (lookup t bs) (lookup t more) → cond c (Some b.1) (lookup t (bs ++ more)) ≡ or_else (cond c (Some b.1) (lookup t bs)) (lookup t more)
    by true h = refl
    by false h = h

found_once : (o : Option Value) → or_else o o ≡ o
found_once None = refl
found_once (Some v) = refl

joined_pairs : (ns ms : List (List ℕ)) (vs ws : List Value) → length vs ≡ length ns → zip (ns ++ ms) (vs ++ ws) ≡ zip ns vs ++ zip ms ws
joined_pairs [] ms [] ws h = refl
joined_pairs [] ms (v ∷ vs) ws h = absurd (omega arith)
joined_pairs (n ∷ ns) ms [] ws h = absurd (omega arith)
joined_pairs (n ∷ ns) ms (v ∷ vs) ws h = ap (λ row. (n, v) ∷ row) (joined_pairs ns ms vs ws (omega arith))

alike_twice : (ns : List (List ℕ)) (vs : List Value) → length vs ≡ length ns → Alike (row_of (twice ns) (twice vs)) (row_of ns vs)
alike_twice ns vs h = λ name.
    ap (lookup (bytes_eq name)) (joined_pairs ns ns vs vs h)
    ∙ found_in (bytes_eq name) (zip ns vs) (zip ns vs)
    ∙ found_once (lookup (bytes_eq name) (zip ns vs))

no_pairs : (ns : List (List ℕ)) → zip {K = List ℕ} {X = Value} ns [] ≡ []
no_pairs [] = refl
no_pairs (n ∷ ns) = refl

-- ---- rows that may stand twice: those as wide as the names, and the empty one

pub record IsSeenOnce (ns : List (List ℕ)) (vs : List Value) : Type 0 where
  pub alike : Alike (row_of (twice ns) (twice vs)) (row_of ns vs)
  pub first : take (length ns) (twice vs) ≡ take (length ns) vs
  pub items : (i : ℕ) → i < length ns → slice_index_or (twice vs) i null ≡ slice_index_or vs i null

item_before : (vs ws : List Value) (i : ℕ) → i < length vs → slice_index_or (vs ++ ws) i null ≡ slice_index_or vs i null
item_before [] ws i h = absurd (omega (arith, h))
item_before (v ∷ vs) ws zero h = refl
item_before (v ∷ vs) ws (suc i) h = item_before vs ws i (omega arith)

pub seen_once : (ns : List (List ℕ)) (vs : List Value) → length vs ≡ length ns → IsSeenOnce ns vs
seen_once ns vs h = record {
  alike = alike_twice ns vs h;
  first = ap (λ n. take n (twice vs)) (sym h) ∙ take-append_seam vs vs ∙ sym (ap (λ n. take n vs) (sym h) ∙ take-length vs);
  items = λ i below. item_before vs vs i (omega (arith, h, below));
}

nothing_once : (ns : List (List ℕ)) → IsSeenOnce ns []
nothing_once ns = record {
  alike = λ name. ap (lookup (bytes_eq name)) (no_pairs (twice ns) ∙ sym (no_pairs ns));
  first = refl;
  items = λ i below. refl;
}

pub all_once : (ns : List (List ℕ)) (rows : List (List Value)) → AllByRecursion (λ r. length r ≡ length ns) rows → AllByRecursion (IsSeenOnce ns) rows
all_once ns [] h = tt
all_once ns (r ∷ rs) h = (seen_once ns r h.0, all_once ns rs h.1)

-- ---- rows at places, and rows that are let in

module _ {X : Type 0} (P : X → Type 0) where
  all_dropped : (n : ℕ) (xs : List X) → AllByRecursion P xs → AllByRecursion P (drop n xs)
  all_dropped zero xs h = h
  all_dropped (suc n) [] h = tt
  all_dropped (suc n) (x ∷ xs) h = all_dropped n xs h.1

  all_limited : (n : Option ℕ) (xs : List X) → AllByRecursion P xs → AllByRecursion P (limited n xs)
  all_limited None xs h = h
  all_limited (Some zero) xs h = tt
  all_limited (Some (suc n)) [] h = tt
  all_limited (Some (suc n)) (x ∷ xs) h = (h.0, all_limited (Some n) xs h.1)

  one_at : (xs : List X) (i : ℕ) (d : X) → P d → AllByRecursion P xs → P (slice_index_or xs i d)
  one_at [] zero d p h = p
  one_at [] (suc i) d p h = p
  one_at (x ∷ xs) zero d p h = h.0
  one_at (x ∷ xs) (suc i) d p h = one_at xs i d p h.1

all_at : (P : List Value → Type 0) (rows : List (List Value)) (places : List ℕ) → P [] → AllByRecursion P rows → AllByRecursion P (rows_at_places rows places)
all_at P rows [] p h = tt
all_at P rows (i ∷ is) p h = (one_at P rows i [] p h, all_at P rows is p h)

row_twice : (rows : List (List Value)) (i : ℕ) → slice_index_or (map twice rows) i [] ≡ twice (slice_index_or rows i [])
row_twice [] zero = refl
row_twice [] (suc i) = refl
row_twice (r ∷ rs) zero = refl
row_twice (r ∷ rs) (suc i) = row_twice rs i

places_twice : (rows : List (List Value)) (places : List ℕ) → rows_at_places (map twice rows) places ≡ map twice (rows_at_places rows places)
places_twice rows [] = refl
places_twice rows (i ∷ is) = λ j. row_twice rows i j ∷ places_twice rows is j

-- ---- behind the items

module _ (parameters : Entries) (graph : Graph) (ns : List (List ℕ)) where
  key_twice : (vs : List Value) (e : Expression) (o : Option ℕ) → IsSeenOnce ns vs → IsWithin (length ns) o
      → key_given parameters graph (twice ns) (twice vs) (chosen_key e o) ≡ key_given parameters graph ns vs (chosen_key e o)
  key_twice vs e None h w = same_value (row_of (twice ns) (twice vs)) (row_of ns vs) parameters graph h.alike e
  key_twice vs e (Some i) h w = ap Ok (h.items i w)

  module _ (where_ : Option Expression) where
    passes_twice : (rows : List (List Value)) → AllByRecursion (IsSeenOnce ns) rows
        → passing_given parameters graph (twice ns) where_ (length ns) (map twice rows) ≡ passing_given parameters graph ns where_ (length ns) rows
    passes_twice [] h = refl
    passes_twice (r ∷ rs) h = λ i.
        same_condition (row_of (twice ns) (twice r)) (row_of ns r) parameters graph h.0.alike where_ i >>= λ b. passes_twice rs h.1 i >>= λ others. Ok (elim b [ true ↦ h.0.first i ∷ others | false ↦ others ])

    cut_twice : (c : Cut) (rows : List (List Value)) → AllByRecursion (IsSeenOnce ns) rows
        → passing_given parameters graph (twice ns) where_ (length ns) (cut_of c (map twice rows)) ≡ passing_given parameters graph ns where_ (length ns) (cut_of c rows)
    cut_twice c rows h =
        ap (passing_given parameters graph (twice ns) where_ (length ns)) (cut_map twice c rows)
        ∙ passes_twice (cut_of c rows) (all_limited (IsSeenOnce ns) c.limit (drop c.skip rows) (all_dropped (IsSeenOnce ns) c.skip rows h))

  module _ (es : List Expression) (same : length es ≡ length ns) where
    source_within : (e : Expression) → IsWithin (length ns) (position (λ x. same_expression x e) es)
    source_within e =
        let t : Expression → Bool = λ x. same_expression x e in
        let whole : 0 + length es ≡ length ns = omega (arith, same) in
        subst (IsWithin (length ns)) (sym (position_from-zero t es)) (subst (λ n. IsWithin n (position_from t 0 es)) whole (within t 0 es))

    keys_twice : (order : List SortItem) (vs : List Value) → IsSeenOnce ns vs
        → keys_given parameters graph (twice ns) (map (λ x. sort_source es x.key) order) (twice vs) ≡ keys_given parameters graph ns (map (λ x. sort_source es x.key) order) vs
    keys_twice [] vs h = refl
    keys_twice (o ∷ os) vs h = λ i. key_twice vs o.key (position (λ x. same_expression x o.key) es) h (source_within o.key) i >>= λ y. keys_twice os vs h i >>= λ ys. Ok (y ∷ ys)

    all_keys_twice : (order : List SortItem) (rows : List (List Value)) → AllByRecursion (IsSeenOnce ns) rows
        → all_keys_given parameters graph (twice ns) (map (λ x. sort_source es x.key) order) (map twice rows) ≡ all_keys_given parameters graph ns (map (λ x. sort_source es x.key) order) rows
    all_keys_twice order [] h = refl
    all_keys_twice order (r ∷ rs) h = λ i. keys_twice order r h.0 i >>= λ y. all_keys_twice order rs h.1 i >>= λ ys. Ok (y ∷ ys)

    pub tail_twice : (order : List SortItem) (c : Cut) (where_ : Option Expression) (rows : List (List Value)) → AllByRecursion (IsSeenOnce ns) rows
        → tail_given parameters graph (twice ns) es false order c where_ (length ns) (map twice rows) ≡ tail_given parameters graph ns es false order c where_ (length ns) rows
    tail_twice [] c where_ rows h = cut_twice where_ c rows h
    tail_twice (o ∷ os) c where_ rows h =
        (λ i. (all_keys_twice (o ∷ os) rows h i >>= λ keys. Ok (rows_at_places (map twice rows) (sorted_places (directions (o ∷ os)) keys))) >>= λ sorted. passing_given parameters graph (twice ns) where_ (length ns) (cut_of c sorted))
        ∙ by (all_keys_given parameters graph ns (map (λ x. sort_source es x.key) (o ∷ os)) rows)
      where
        by : (a : Result (List (List Value)) Fault)
            → ((a >>= λ keys. Ok (rows_at_places (map twice rows) (sorted_places (directions (o ∷ os)) keys))) >>= λ sorted. passing_given parameters graph (twice ns) where_ (length ns) (cut_of c sorted))
            ≡ ((a >>= λ keys. Ok (rows_at_places rows (sorted_places (directions (o ∷ os)) keys))) >>= λ sorted. passing_given parameters graph ns where_ (length ns) (cut_of c sorted))
        by (Ok keys) =
            ap (λ rs. passing_given parameters graph (twice ns) where_ (length ns) (cut_of c rs)) (places_twice rows (sorted_places (directions (o ∷ os)) keys))
            ∙ cut_twice where_ c (rows_at_places rows (sorted_places (directions (o ∷ os)) keys)) (all_at (IsSeenOnce ns) rows (sorted_places (directions (o ∷ os)) keys) (nothing_once ns) h)
        by (Err f) = refl
