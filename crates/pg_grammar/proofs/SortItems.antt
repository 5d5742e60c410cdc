-- Sort items, and what stands with them behind the items of WITH and RETURN.
use Rattle.std.proofs.Common.{◌≡◌, ℕ, ◌+◌, true, List, [], ◌∷◌, ◌++◌, map, Option, Some, None, refl, ap, arith}
use Rattle.std.proofs.lemmas.List.{append-nil}
use Rattle.std.specs.List.{AllByRecursion}
use Rattle.pg_meaning.specs.declared.lexemes.Keyword.{Keyword}
use Rattle.pg_meaning.specs.declared.lexemes.Keyword.TheVariants as k
use Rattle.pg_meaning.specs.declared.lexemes.Symbol.TheVariants as s
use Rattle.pg_meaning.specs.declared.operators.Sort.{Sort}
use Rattle.pg_meaning.specs.declared.operators.Sort.TheVariants as sort
use Rattle.pg_meaning.specs.Tokens.{Lexeme, Token}
use Rattle.pg_meaning.specs.Tokens as lexeme
use Rattle.pg_meaning.specs.Tree.{Expression, SortItem}
use Rattle.pg_meaning.specs.Grammar.{Mark, key, keyed, marks, optional_marks, direction_marks, sort_marks, order_marks, commas, Accepts, Fit, IsWellFormed}
use Rattle.pg_meaning.specs.Parse as parse
use Rattle.pg_meaning.specs.Parse.{Parser, ◌>>=◌, ◌>>◌, pure, sees_symbol, sees_keyword, maybe, separated, direction_of, direction, sort_item, ordering}
use Rattle.pg_grammar.specs.Rules.{Ends, Exactly, Anything}
use Rattle.pg_grammar.proofs.Combinators.{Fitting, Free, Items, After, AfterItems, fitting, narrowed, restated, step, behind, made, maybe_exact, or_none_exact, one_exact, items_exact, each_free, ending, keyword_exact, keyword_begins}
use Rattle.pg_grammar.proofs.Conditions.{Whole, MayHave, may_have_exact}
use Rattle.pg_grammar.proofs.Stages.{begins_direction, stage, From, from_ends, from_not, from_no_comma, from_no_direction}
use Rattle.pg_grammar.proofs.Terminals.{symbol_is, with_rest_is}

-- ---- directions

abbrev direction_word : Sort → Keyword
direction_word sort.Asc = k.Asc
direction_word sort.Ascending = k.Ascending
direction_word sort.Desc = k.Desc
direction_word sort.Descending = k.Descending

abbrev direction_mark : Sort → Mark
direction_mark d = key (direction_word d)

marks_of : (d : Sort) → direction_marks d ≡ direction_mark d ∷ []
marks_of sort.Asc = refl
marks_of sort.Ascending = refl
marks_of sort.Desc = refl
marks_of sort.Descending = refl

direction_spelled : (l : Lexeme) (d : Sort) → direction_of l ≡ Some d → (w : List ℕ) × (l ≡ lexeme.keyword (direction_word d) w)
direction_spelled (lexeme.keyword k.Asc w) d e = let same : sort.Asc ≡ d = cc in rw (← same) (w, refl)
direction_spelled (lexeme.keyword k.Ascending w) d e = let same : sort.Ascending ≡ d = cc in rw (← same) (w, refl)
direction_spelled (lexeme.keyword k.Desc w) d e = let same : sort.Desc ≡ d = cc in rw (← same) (w, refl)
direction_spelled (lexeme.keyword k.Descending w) d e = let same : sort.Descending ≡ d = cc in rw (← same) (w, refl)
direction_spelled _ d e = absurd cc

direction_found : (d : Sort) (w : List ℕ) → direction_of (lexeme.keyword (direction_word d) w) ≡ Some d
direction_found sort.Asc w = refl
direction_found sort.Ascending w = refl
direction_found sort.Desc w = refl
direction_found sort.Descending w = refl

direction_takes : (ts more : List Token) (d : Sort) → direction ts ≡ Some (d, more) → (t : Token) × (ts ≡ t ∷ more) × Accepts (direction_mark d) t
unfolding direction
direction_takes [] more d e = absurd cc
direction_takes (t ∷ ts) more d e =
    let h = with_rest_is (direction_of t.lexeme) ts d more e in
    (t, ap (λ (r : List Token). t ∷ r) h.1, record { spelled = direction_spelled t.lexeme d h.0; starts = tt; finishes = tt })

direction_again : (t : Token) (more : List Token) (d : Sort) → Accepts (direction_mark d) t → direction (t ∷ more) ≡ Some (d, more)
unfolding direction
direction_again t more d h = rw (h.spelled.1, direction_found d h.spelled.0) refl

direction_exact : {limit : ℕ} → Exactly limit direction (Fitting Free direction_marks) Anything
direction_exact = restated (one_exact direction_mark direction_takes direction_again) (λ d front h. fitting tt (rw (marks_of d) h.fits)) (λ d front h. fitting tt (rw (← marks_of d) h.fits)) (λ more h. h)

direction_first : (d : Sort) (front more : List Token) → Fit front (direction_marks d) → begins_direction (front ++ more) ≡ true
direction_first d front more fits = by front (rw (← marks_of d) fits)
  where
    by : (front : List Token) → Fit front (direction_mark d ∷ []) → begins_direction (front ++ more) ≡ true
    by [] fits = absurd fits
    by (t ∷ front) fits = rw (fits.0.spelled.1, direction_found d fits.0.spelled.0) refl

-- ---- sort items

abbrev pub IsSortItem : SortItem → Type 0
IsSortItem x = IsWellFormed x.key

abbrev SortEnds : List Token → Type 0
SortEnds = After begins_direction (Ends 1)

abbrev sorted_by : Expression → Option Sort → SortItem
sorted_by x d = record { key = x; direction = d }

abbrev from_key : SortItem → List Mark
from_key i = marks i.key ++ (optional_marks direction_marks i.direction ++ [])

comma_sort_ends : (more : List Token) → sees_symbol s.Comma more ≡ true → SortEnds more
comma_sort_ends more e = let i = symbol_is s.Comma more e in rw (i.1, i.2.spelled) (refl, omega arith)

key_ends : (d : Option Sort) (y more : List Token) → Fit y (optional_marks direction_marks d ++ []) → SortEnds more → Ends 1 (y ++ more)
key_ends None y more fits ends = ending (Ends 1) y more fits ends.1
key_ends (Some d) y more fits ends = by y (rw (append-nil (direction_marks d), marks_of d) at fits)
  where
    binds : (d : Sort) (w : List ℕ) → Ends 1 (record { lexeme = lexeme.keyword (direction_word d) w; start = 0; finish = 0 } ∷ [])
    binds sort.Asc w = omega arith
    binds sort.Ascending w = omega arith
    binds sort.Desc w = omega arith
    binds sort.Descending w = omega arith

    by : (y : List Token) → Fit y (direction_mark d ∷ []) → Ends 1 (y ++ more)
    by [] fits = absurd fits
    by (t ∷ y) fits = rw fits.0.spelled.1 (binds d fits.0.spelled.0)

sort_item_exact : {n : ℕ} {whole : Parser Expression} → Exactly n whole Whole (Ends 1) → Exactly n (sort_item whole) (Fitting IsSortItem sort_marks) SortEnds
unfolding sort_item
sort_item_exact exact =
    restated
    (step (λ (i : SortItem). i.key) Free exact
    (λ x. step (λ (i : SortItem). i.direction) (λ (i : SortItem). (i.key ≡ x) × Free i) (maybe_exact begins_direction direction_exact (λ d front more h. direction_first d front more h.fits))
    (λ d. made (sorted_by x d) (λ (i : SortItem). (i.direction ≡ d) × ((i.key ≡ x) × Free i)) (refl, (refl, tt)) (λ i h. rw (← h.0, ← h.1.0) refl))
    (λ i y more well fits ends. ending (After begins_direction Anything) y more fits (ends.0, tt)))
    (λ i y more well fits ends. key_ends i.direction y more fits ends))
    (λ i front h. fitting h.well.0 (rw (← same i) h.fits))
    (λ i front h. fitting (h.well, (each_free i.direction, tt)) (rw (same i) h.fits))
    (λ more h. h)
  where
    same : (i : SortItem) → from_key i ≡ sort_marks i
    same i = simp append-nil

-- ---- ORDER BY

abbrev pub IsOrder : List SortItem → Type 0
IsOrder xs = AllByRecursion IsSortItem xs

abbrev sorting_marks : List SortItem → List Mark
sorting_marks xs = key k.Order ∷ key k.By ∷ commas (map sort_marks xs)

sorting_exact : {n : ℕ} {whole : Parser Expression} → Exactly n whole Whole (Ends 1)
    → Exactly n (parse.keyword k.Order >> (parse.keyword k.By >> separated (sort_item whole))) (Fitting (Items IsSortItem) order_marks) (AfterItems SortEnds)
sorting_exact exact = restated (behind (keyword_exact k.Order) (behind (keyword_exact k.By) (items_exact (sort_item_exact exact) comma_sort_ends))) out into (λ more h. h)
  where
    out : (xs : List SortItem) (front : List Token) → Fitting (Items IsSortItem) sorting_marks xs front → Fitting (Items IsSortItem) order_marks xs front
    out [] front h = absurd h.well.0
    out (x ∷ xs) front h = fitting h.well h.fits

    into : (xs : List SortItem) (front : List Token) → Fitting (Items IsSortItem) order_marks xs front → Fitting (Items IsSortItem) sorting_marks xs front
    into [] front h = absurd h.well.0
    into (x ∷ xs) front h = fitting h.well h.fits

pub ordering_exact : {n : ℕ} {whole : Parser Expression} → Exactly n whole Whole (Ends 1) → Exactly n (ordering whole) (Fitting IsOrder order_marks) (From 2)
ordering_exact exact =
    narrowed (or_none_exact (sees_keyword k.Order) refl tt (λ xs h. h.1) (λ x xs h. (tt, h)) (sorting_exact exact) seen)
    (λ more from. (from_not k.Order 2 more (λ w. omega arith) from, (from_no_comma 2 more (omega arith) from, (from_no_direction 2 more (omega arith) from, from_ends 2 more (omega arith) from))))
  where
    seen : (xs : List SortItem) (front more : List Token) → Fitting (Items IsSortItem) order_marks xs front → sees_keyword k.Order (front ++ more) ≡ true
    seen [] front more h = absurd h.well.0
    seen (x ∷ xs) front more h = keyword_begins k.Order _ front more h.fits

pub order_from : (xs : List SortItem) (ms : List Mark) (y more : List Token) → Fit y (order_marks xs ++ ms) → ((z : List Token) → Fit z ms → From 2 (z ++ more)) → From 1 (y ++ more)
order_from [] ms y more fits from = let f = from y fits in omega arith
order_from (x ∷ xs) ms [] more fits from = absurd fits
order_from (x ∷ xs) ms (t ∷ y) more fits from = rw fits.0.spelled.1 (omega arith)

-- ---- SKIP, LIMIT and WHERE

-- where it has this place of the order, and what stands behind it a later one
pub keyed_exact : {n : ℕ} {whole : Parser Expression} → Exactly n whole Whole (Ends 1) → (x : Keyword) (at : ℕ) → ((w : List ℕ) → stage (lexeme.keyword x w) ≡ at)
    → Exactly n (maybe (sees_keyword x) (parse.keyword x >> whole)) (MayHave x) (From (at + 1))
keyed_exact exact x at place = narrowed (may_have_exact x exact) (λ more from. (from_not x (at + 1) more (λ w. omega (arith, place w)) from, from_ends (at + 1) more (omega arith) from))

pub keyed_from : (x : Keyword) (at : ℕ) → ((w : List ℕ) → stage (lexeme.keyword x w) ≡ at) → (e : Option Expression) (ms : List Mark) (y more : List Token) → Fit y (optional_marks (keyed x) e ++ ms) → ((z : List Token) → Fit z ms → From (at + 1) (z ++ more)) → From at (y ++ more)
keyed_from x at place None ms y more fits from = let f = from y fits in omega arith
keyed_from x at place (Some e) ms [] more fits from = absurd fits
keyed_from x at place (Some e) ms (t ∷ y) more fits from = rw (fits.0.spelled.1, place fits.0.spelled.0) (omega arith)
