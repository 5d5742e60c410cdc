-- Where the tokens of a text are its own, the source of each item can be cut from it.
use Rattle.std.proofs.Common.{◌≡◌, ℕ, ◌+◌, Option, Some, None, List, [], ◌∷◌, ◌++◌, length, map, sym, ap, subst, ◌∙◌, arith}
use Rattle.std.specs.List.{AllByRecursion}
use Rattle.std.specs.Str.{IsUtf8, IsCharBoundary}
use Rattle.pg_meaning.specs.declared.lexemes.Keyword.TheVariants as k
use Rattle.pg_meaning.specs.ListsLaws.{all_weaker}
use Rattle.pg_meaning.specs.Tokens.{Token}
use Rattle.pg_meaning.specs.Tree.{Item, Projection, Clause}
use Rattle.pg_meaning.specs.Tree as tree
use Rattle.pg_meaning.specs.Grammar.{Mark, key, flag, keyed, begun, ended, further, concatenated, marks, optional_marks, alias_marks, item_marks, items_marks, order_marks, clause_marks, projection_marks, Fit, IsClause, IsProjection, IsWellFormed, HasSource, items_of}
use Rattle.pg_grammar.specs.Rules.{ExpressionsOpen}
use Rattle.pg_grammar.proofs.Fits.{all_front, all_back}
use Rattle.pg_grammar.proofs.Items.{IsCut}
use Rattle.pg_grammar.proofs.Spans.{Placed, cut_sound, cut_complete}

-- the other way it is so of any text
pub cut_source : (text : List ℕ) (x : Item) → IsCut text x → HasSource text x
cut_source text x h = (cut_sound text x.source x.start (x.start + length x.source) h).1

module _ (text : List ℕ) (utf8 : IsUtf8 text) (opened : ExpressionsOpen) where
  -- the places of a mark are between characters
  abbrev Between : Mark → Type 0
  Between m = AllByRecursion (IsCharBoundary text) m.starts × AllByRecursion (IsCharBoundary text) m.finishes

  pub marks_between : (ts : List Token) (ms : List Mark) → Fit ts ms → AllByRecursion (Placed text) ts → AllByRecursion Between ms
  marks_between [] [] fits placed = tt
  marks_between [] (m ∷ ms) fits placed = absurd fits
  marks_between (t ∷ ts) [] fits placed = absurd fits
  marks_between (t ∷ ts) (m ∷ ms) fits placed = (
    (
      all_weaker (λ at. t.start ≡ at) (IsCharBoundary text) (λ at e. subst (IsCharBoundary text) e placed.0.start) m.starts fits.0.starts,
      all_weaker (λ at. t.finish ≡ at) (IsCharBoundary text) (λ at e. subst (IsCharBoundary text) e placed.0.finish) m.finishes fits.0.finishes,
    ),
    marks_between ts ms fits.1 placed.1,
  )

  ended_between : (at : ℕ) (m : Mark) (ms : List Mark) → AllByRecursion Between (ended at (m ∷ ms)) → IsCharBoundary text at
  ended_between at m [] h = h.0.1.0
  ended_between at m (n ∷ ms) h = ended_between at n ms h.1

  span_between : (a b : ℕ) (m : Mark) (ms : List Mark) → AllByRecursion Between (begun a (ended b (m ∷ ms))) → IsCharBoundary text a × IsCharBoundary text b
  span_between a b m [] h = (h.0.0.0, h.0.1.0)
  span_between a b m (n ∷ ms) h = (h.0.0.0, ended_between b n ms h.1)

  item_cut : (x : Item) → IsWellFormed x.value → AllByRecursion Between (item_marks x) → HasSource text x → IsCut text x
  item_cut x well h source = by (marks x.value) (λ fits. let bad = (opened x.value [] well fits).whole in cc) (all_front Between (begun x.start (ended (x.start + length x.source) (marks x.value))) (optional_marks alias_marks x.alias) h)
    where
      by : (ms : List Mark) → (Fit [] ms → ⊥) → AllByRecursion Between (begun x.start (ended (x.start + length x.source) ms)) → IsCut text x
      by [] some h = absurd (some tt)
      by (m ∷ ms) some h =
          let s = span_between x.start (x.start + length x.source) m ms h in
          cut_complete text x.start (x.start + length x.source) utf8 s.0 s.1 (omega arith) ∙ ap Some (sym source)

  further_cut : (xs : List Item) → AllByRecursion (λ x. IsWellFormed x.value) xs → AllByRecursion Between (further (map item_marks xs)) → AllByRecursion (HasSource text) xs → AllByRecursion (IsCut text) xs
  further_cut [] well h sources = tt
  further_cut (x ∷ xs) well h sources = (
    item_cut x well.0 (all_front Between (item_marks x) (further (map item_marks xs)) h.1) sources.0,
    further_cut xs well.1 (all_back Between (item_marks x) (further (map item_marks xs)) h.1) sources.1,
  )

  columns_cut : (star : Option ℕ) (xs : List Item) → AllByRecursion (λ x. IsWellFormed x.value) xs → AllByRecursion Between (items_marks star xs) → AllByRecursion (HasSource text) xs → AllByRecursion (IsCut text) xs
  columns_cut (Some at) xs well h sources = further_cut xs well h.1 sources
  columns_cut None [] well h sources = tt
  columns_cut None (x ∷ xs) well h sources = (
    item_cut x well.0 (all_front Between (item_marks x) (further (map item_marks xs)) h) sources.0,
    further_cut xs well.1 (all_back Between (item_marks x) (further (map item_marks xs)) h) sources.1,
  )

  projection_cut : (p : Projection) → IsProjection p → AllByRecursion Between (projection_marks p) → AllByRecursion (HasSource text) p.items → AllByRecursion (IsCut text) p.items
  projection_cut p well h sources =
      let m1 = flag p.distinct (key k.Distinct) in let m2 = items_marks p.star p.items in let m3 = order_marks p.order in
      let m4 = optional_marks (keyed k.Skip) p.skip in let m5 = optional_marks (keyed k.Limit) p.limit in
      columns_cut p.star p.items well.1 (all_back Between m1 m2 (all_front Between (m1 ++ m2) m3 (all_front Between (m1 ++ m2 ++ m3) m4 (all_front Between (m1 ++ m2 ++ m3 ++ m4) m5 h)))) sources

  clause_cut : (c : Clause) → IsClause c → AllByRecursion Between (clause_marks c) → AllByRecursion (HasSource text) (items_of c) → AllByRecursion (IsCut text) (items_of c)
  clause_cut (tree.with_rows p x) well h sources = projection_cut p well.0 (all_front Between (projection_marks p) (optional_marks (keyed k.Where) x) h.1) sources
  clause_cut (tree.return_rows p) well h sources = projection_cut p well h.1 sources
  clause_cut _ well h sources = tt

  pub clauses_cut : (cs : List Clause) → AllByRecursion IsClause cs → AllByRecursion Between (concatenated (map clause_marks cs)) → AllByRecursion (λ c. AllByRecursion (HasSource text) (items_of c)) cs → AllByRecursion (λ c. AllByRecursion (IsCut text) (items_of c)) cs
  clauses_cut [] well h sources = tt
  clauses_cut (c ∷ cs) well h sources = (
    clause_cut c well.0 (all_front Between (clause_marks c) (concatenated (map clause_marks cs)) h) sources.0,
    clauses_cut cs well.1 (all_back Between (clause_marks c) (concatenated (map clause_marks cs)) h) sources.1,
  )
