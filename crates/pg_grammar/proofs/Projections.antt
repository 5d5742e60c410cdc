-- What stands behind WITH or RETURN.
use Rattle.std.proofs.Common.{◌≡◌, ℕ, Bool, true, false, List, [], ◌∷◌, ◌++◌, map, Option, Some, None, refl, append_assoc, arith}
use Rattle.std.proofs.lemmas.List.{append-nil}
use Rattle.std.specs.Prelude.{is_some}
use Rattle.std.specs.List.{AllByRecursion}
use Rattle.pg_meaning.specs.declared.lexemes.Keyword.{Keyword}
use Rattle.pg_meaning.specs.declared.lexemes.Keyword.TheVariants as k
use Rattle.pg_meaning.specs.declared.lexemes.Symbol.TheVariants as s
use Rattle.pg_meaning.specs.Tokens.{Token}
use Rattle.pg_meaning.specs.Tree.{Expression, Item, SortItem, Projection}
use Rattle.pg_meaning.specs.Grammar.{Mark, key, sign, flag, keyed, further, commas, optional_marks, item_marks, items_marks, order_marks, projection_marks, Fit, HasColumns, IsWellFormed, Each as EachOf}
use Rattle.pg_meaning.specs.Parse as parse
use Rattle.pg_meaning.specs.Parse.{Parser, ◌>>=◌, ◌>>◌, pure, maybe, sees_symbol, sees_keyword, is_symbol, is_keyword, eat_symbol, start_of, star_of, many, comma_and, separated, ordering, projection, here}
use Rattle.pg_grammar.specs.Rules.{Exactly, Exact, ExpressionsOpen}
use Rattle.pg_grammar.proofs.Combinators.{Marked, Fitting, Free, Items, AfterItems, fitting, restated, step, made, here_then, items_exact, further_exact, eat_symbol_exact, eat_keyword_exact, ending}
use Rattle.pg_grammar.proofs.Conditions.{whole_exact}
use Rattle.pg_grammar.proofs.FirstTokens.{shown}
use Rattle.pg_grammar.proofs.Items.{ItemEnds, comma_item_ends, item_opens}
use Rattle.pg_grammar.proofs.Openings.{symbol_closed, keyword_closed, symbol_unbound}
use Rattle.pg_grammar.proofs.SortItems.{IsOrder, ordering_exact, order_from, keyed_exact, keyed_from}
use Rattle.pg_grammar.proofs.Stages.{From, from_ends, from_not, from_no_comma}

abbrev pub Projected : (Item → Type 0) → Projection → Type 0
Projected Ok p = HasColumns p.star p.items × AllByRecursion Ok p.items × IsOrder p.order × EachOf IsWellFormed p.skip × EachOf IsWellFormed p.limit

abbrev made_projection : Bool → Option ℕ → List Item → List SortItem → Option Expression → Option Expression → Projection
made_projection d star xs os m l = record { distinct = d; star = star; items = xs; order = os; skip = m; limit = l }

-- ---- the marks, from each part on

abbrev column_marks : Bool → List Item → List Mark
column_marks true xs = further (map item_marks xs)
column_marks false xs = commas (map item_marks xs)

abbrev from_limit : Projection → List Mark
from_limit p = optional_marks (keyed k.Limit) p.limit ++ []

abbrev from_skip : Projection → List Mark
from_skip p = optional_marks (keyed k.Skip) p.skip ++ from_limit p

abbrev from_order : Projection → List Mark
from_order p = order_marks p.order ++ from_skip p

abbrev from_columns : Projection → List Mark
from_columns p = items_marks p.star p.items ++ from_order p

-- ---- what stands behind each part

limit_from : (p : Projection) (y more : List Token) → Fit y (from_limit p) → From 4 more → From 3 (y ++ more)
limit_from p y more fits from = keyed_from k.Limit 3 (λ w. refl) p.limit [] y more fits (λ z f. ending (From 4) z more f from)

skip_from : (p : Projection) (y more : List Token) → Fit y (from_skip p) → From 4 more → From 2 (y ++ more)
skip_from p y more fits from = keyed_from k.Skip 2 (λ w. refl) p.skip (from_limit p) y more fits (λ z f. limit_from p z more f from)

rest_from : (p : Projection) (y more : List Token) → Fit y (from_order p) → From 4 more → From 1 (y ++ more)
rest_from p y more fits from = order_from p.order (from_skip p) y more fits (λ z f. skip_from p z more f from)

columns_end : (ts : List Token) → From 1 ts → AfterItems ItemEnds ts
columns_end ts from = (from_no_comma 1 ts (omega arith) from, (from_not k.As 1 ts (λ w. omega arith) from, from_ends 1 ts (omega arith) from))

module _ {n : ℕ} {whole : Parser Expression} {item : Parser Item} {Ok : Item → Type 0}
    (exact : Exact n 1 whole) (opened : ExpressionsOpen) (well : (x : Item) → Ok x → IsWellFormed x.value) (item_exact : Exactly n item (Fitting Ok item_marks) ItemEnds) where
  abbrev columns : Bool → Parser (List Item)
  columns b = elim b [ true ↦ many (sees_symbol s.Comma) (comma_and item) [] | false ↦ separated item ]

  abbrev Columns : Bool → List Item → Type 0
  Columns true xs = AllByRecursion Ok xs
  Columns false xs = Items Ok xs

  columns_exact : (b : Bool) → Exactly n (columns b) (Fitting (Columns b) (column_marks b)) (AfterItems ItemEnds)
  columns_exact true = further_exact item_exact comma_item_ends
  columns_exact false = items_exact item_exact comma_item_ends

  abbrev Rest : Projection → Type 0
  Rest p = IsOrder p.order × (EachOf IsWellFormed p.skip × (EachOf IsWellFormed p.limit × Free p))

  abbrev Inner : Projection → Type 0
  Inner p = Free (is_some p.star) × (Columns (is_some p.star) p.items × Rest p)

  -- neither DISTINCT nor, without one, a star begins the columns
  no_star : (star : Option ℕ) (xs : List Item) (ms : List Mark) (y more : List Token) → Columns (is_some star) xs → Fit y (column_marks (is_some star) xs ++ ms) → ((z : List Token) → Fit z ms → From 1 (z ++ more)) → sees_symbol s.Star (y ++ more) ≡ false
  unfolding parse.same_symbol
  no_star None [] ms y more has fits from = absurd has.0
  no_star None (x ∷ xs) ms y more has fits from = symbol_closed s.Star y more refl (item_opens opened x (further (map item_marks xs) ++ ms) y (well x has.1.0) (rw append_assoc at fits))
  no_star (Some at) [] ms y more has fits from = symbol_unbound s.Star (y ++ more) (let f = from_ends 1 (y ++ more) (omega arith) (from y fits) in omega arith)
  no_star (Some at) (x ∷ xs) ms y more has fits from = shown (is_symbol s.Star) (further (map item_marks (x ∷ xs)) ++ ms) y more (λ l h. rw h refl) fits

  no_distinct : (star : Option ℕ) (xs : List Item) (ms : List Mark) (y more : List Token) → Columns (is_some star) xs → Fit y (items_marks star xs ++ ms) → sees_keyword k.Distinct (y ++ more) ≡ false
  unfolding parse.same_keyword
  no_distinct None [] ms y more has fits = absurd has.0
  no_distinct None (x ∷ xs) ms y more has fits = keyword_closed k.Distinct y more (λ w. refl) (item_opens opened x (further (map item_marks xs) ++ ms) y (well x has.1.0) (rw append_assoc at fits))
  no_distinct (Some at) xs ms y more has fits = shown (is_keyword k.Distinct) (items_marks (Some at) xs ++ ms) y more (λ l h. rw h refl) fits

  -- ---- the star's place

  starred : (star : Option ℕ) (ms : List Mark) (xs : List Item) (front more : List Token) → star ≡ star_of (is_some star) (start_of (front ++ more)) → Fit front (flag (is_some star) (sign s.Star) ++ (column_marks (is_some star) xs ++ ms)) → Fit front (items_marks star xs ++ ms)
  starred None ms xs front more is fits = fits
  starred (Some at) ms xs [] more is fits = absurd fits
  starred (Some at) ms xs (t ∷ front) more is fits = let same : t.start ≡ at = cc in (record { spelled = fits.0.spelled; starts = (same, tt); finishes = tt }, fits.1)

  unstarred : (star : Option ℕ) (ms : List Mark) (xs : List Item) (front more : List Token) → Fit front (items_marks star xs ++ ms)
      → (star ≡ star_of (is_some star) (start_of (front ++ more))) × Fit front (flag (is_some star) (sign s.Star) ++ (column_marks (is_some star) xs ++ ms))
  unstarred None ms xs front more fits = (refl, fits)
  unstarred (Some at) ms xs [] more fits = absurd fits
  unstarred (Some at) ms xs (t ∷ front) more fits = (rw fits.0.starts.0 refl, (record { spelled = fits.0.spelled; starts = tt; finishes = tt }, fits.1))

  -- ---- read

  abbrev keyed_expression : Keyword → Parser (Option Expression)
  keyed_expression x = maybe (sees_keyword x) (parse.keyword x >> whole)

  abbrev Placed : Bool → ℕ → Projection → Type 0
  Placed d at p = (p.star ≡ star_of (is_some p.star) at) × (p.distinct ≡ d)

  abbrev Starred : Bool → ℕ → Bool → Projection → Type 0
  Starred d at b p = (is_some p.star ≡ b) × Placed d at p

  behind_star : (d : Bool) (at : ℕ) (b : Bool) → Exactly n (columns b >>= λ xs. ordering whole >>= λ os. keyed_expression k.Skip >>= λ m. keyed_expression k.Limit >>= λ l. pure (made_projection d (star_of b at) xs os m l))
      (Marked (Starred d at b) (λ p. Columns (is_some p.star) p.items × Rest p) (λ p. column_marks (is_some p.star) p.items ++ from_order p)) (From 4)
  behind_star d at b =
      let value = whole_exact exact in
      restated
      (step (λ (p : Projection). p.items) (Starred d at b) (columns_exact b)
      (λ xs. step (λ (p : Projection). p.order) (λ (p : Projection). (p.items ≡ xs) × Starred d at b p) (ordering_exact value)
      (λ os. step (λ (p : Projection). p.skip) (λ (p : Projection). (p.order ≡ os) × ((p.items ≡ xs) × Starred d at b p)) (keyed_exact value k.Skip 2 (λ w. refl))
      (λ m. step (λ (p : Projection). p.limit) (λ (p : Projection). (p.skip ≡ m) × ((p.order ≡ os) × ((p.items ≡ xs) × Starred d at b p))) (keyed_exact value k.Limit 3 (λ w. refl))
      (λ l. made (made_projection d (star_of b at) xs os m l) (λ (p : Projection). (p.limit ≡ l) × ((p.skip ≡ m) × ((p.order ≡ os) × ((p.items ≡ xs) × Starred d at b p)))) (refl, (refl, (refl, (refl, known)))) again)
      (λ p y more well fits ends. ending (From 4) y more fits ends))
      (λ p y more well fits ends. limit_from p y more fits ends))
      (λ p y more well fits ends. skip_from p y more fits ends))
      (λ p y more well fits ends. columns_end (y ++ more) (rest_from p y more fits ends)))
      (λ p front h. record { known = h.known; well = rw h.known.0 h.well; fits = rw h.known.0 h.fits })
      (λ p front h. record { known = h.known; well = rw (← h.known.0) h.well; fits = rw (← h.known.0) h.fits })
      (λ more h. h)
    where
      star_is : (c : Bool) → (is_some (star_of c at) ≡ c) × (star_of c at ≡ star_of (is_some (star_of c at)) at)
      star_is true = (refl, refl)
      star_is false = (refl, refl)

      known : (is_some (star_of b at) ≡ b) × ((star_of b at ≡ star_of (is_some (star_of b at)) at) × (d ≡ d))
      known = ((star_is b).0, ((star_is b).1, refl))

      again : {xs : List Item} {os : List SortItem} {m l : Option Expression} (p : Projection) → (p.limit ≡ l) × ((p.skip ≡ m) × ((p.order ≡ os) × ((p.items ≡ xs) × Starred d at b p))) → made_projection d (star_of b at) xs os m l ≡ p
      again p h = rw (← h.0, ← h.1.0, ← h.1.1.0, ← h.1.1.1.0, ← h.1.1.1.1.0, ← h.1.1.1.1.1.0, ← h.1.1.1.1.1.1) refl

  abbrev Formed : Projection → Type 0
  Formed p = Columns (is_some p.star) p.items × Rest p

  behind_distinct : (d : Bool) → Exactly n (here >>= λ at. eat_symbol s.Star >>= λ b. columns b >>= λ xs. ordering whole >>= λ os. keyed_expression k.Skip >>= λ m. keyed_expression k.Limit >>= λ l. pure (made_projection d (star_of b at) xs os m l))
      (Marked (λ p. (p.distinct ≡ d) × Free p) Formed from_columns) (From 4)
  behind_distinct d =
      here_then
      (λ at. step (λ (p : Projection). is_some p.star) (Placed d at) (eat_symbol_exact s.Star) (behind_star d at) (λ p y more well fits ends. no_star p.star p.items (from_order p) y more well.0 fits (λ z f. rest_from p z more f ends)))
      (λ p front more h. record { known = (h.known.1, tt); well = h.well.1; fits = starred p.star (from_order p) p.items front more h.known.0 h.fits })
      (λ p front more h. let u = unstarred p.star (from_order p) p.items front more h.fits in record { known = (u.0, h.known.0); well = (tt, h.well); fits = u.1 })

  has_columns : (star : Option ℕ) (xs : List Item) → Columns (is_some star) xs → HasColumns star xs × AllByRecursion Ok xs
  has_columns None xs h = h
  has_columns (Some at) xs h = (tt, h)

  columns_have : (star : Option ℕ) (xs : List Item) → HasColumns star xs → AllByRecursion Ok xs → Columns (is_some star) xs
  columns_have None xs has all = (has, all)
  columns_have (Some at) xs has all = all

  same : (p : Projection) → projection_marks p ≡ flag p.distinct (key k.Distinct) ++ from_columns p
  same p = simp (append_assoc, append-nil)

  pub projection_exact : Exactly n (projection whole item) (Fitting (Projected Ok) projection_marks) (From 4)
  unfolding projection
  projection_exact =
      restated (step (λ (p : Projection). p.distinct) Free (eat_keyword_exact k.Distinct) behind_distinct (λ p y more well fits ends. no_distinct p.star p.items (from_order p) y more well.0 fits))
      (λ p front h. let w = h.well.1 in let c = has_columns p.star p.items w.0 in fitting (c.0, c.1, w.1.0, w.1.1.0, w.1.1.1.0) (rw (same p) h.fits))
      (λ p front h. let w = h.well in fitting (tt, (columns_have p.star p.items w.0 w.1, (w.2, (w.3, (w.4, tt))))) (rw (← same p) h.fits))
      (λ more h. h)
