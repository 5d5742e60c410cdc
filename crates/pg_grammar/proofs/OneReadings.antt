-- One reading at most, of any tokens: where the sources are replaced by those of a plain text, the reading can be computed.
use Rattle.std.proofs.Common.{◌≡◌, ℕ, zero, suc, ◌+◌, ◌-◌, ◌≤◌, false, List, [], ◌∷◌, ◌++◌, length, map, replicate, take, drop, Option, Some, None, refl, sym, ap, subst, ◌∙◌, arith}
use Rattle.std.proofs.lemmas.List.{length-replicate, take-replicate, drop-replicate}
use Rattle.std.proofs.lemmas.Str.{IsUtf8-from_ascii, IsCharBoundary-from_ascii}
use Rattle.std.specs.Prelude.{slice_range}
use Rattle.std.specs.List.{AllByRecursion}
use Rattle.std.specs.Str.{IsAscii}
use Rattle.pg_meaning.specs.declared.lexemes.Symbol.TheVariants as s
use Rattle.pg_meaning.specs.ListsLaws.{all_weaker, all_mapped}
use Rattle.pg_meaning.specs.Tokens.{Token}
use Rattle.pg_meaning.specs.Tree.{Expression, Item, Projection, Clause, Query}
use Rattle.pg_meaning.specs.Tree as tree
use Rattle.pg_meaning.specs.Grammar.{Mark, sign, flag, further, commas, begun, ended, marks, optional_marks, alias_marks, item_marks, items_marks, clause_marks, Fit, HasColumns, IsClause, IsWellFormed, IsNamed, IsProjection, AreParts, kind_of, HasSource, items_of, Reads}
use Rattle.pg_meaning.specs.Parse.{OneReading, query_of}
use Rattle.pg_grammar.specs.Rules.{ExpressionsAreExact, ExpressionsOpen, ReadingClausesAreExact, UpdatingClausesAreExact}
use Rattle.pg_grammar.proofs.Parts.{all_marks}
use Rattle.pg_grammar.proofs.Queries.{read_complete}
use Rattle.pg_grammar.proofs.Shapes.{kinds}
use Rattle.pg_grammar.proofs.Spans.{Placed}

-- ---- the same query with other sources

module _ (source : Item → List ℕ) where
  abbrev resourced_item : Item → Item
  resourced_item x = record x { source = source x }

  abbrev resourced_projection : Projection → Projection
  resourced_projection p = record p { items = map resourced_item p.items }

  abbrev resourced_clause : Clause → Clause
  resourced_clause (tree.with_rows p x) = tree.with_rows (resourced_projection p) x
  resourced_clause (tree.return_rows p) = tree.return_rows (resourced_projection p)
  resourced_clause c = c

  abbrev resourced : Query → Query
  resourced q = record q { clauses = map resourced_clause q.clauses }

  items_resourced : (c : Clause) → items_of (resourced_clause c) ≡ map resourced_item (items_of c)
  items_resourced (tree.with_rows p x) = refl
  items_resourced (tree.return_rows p) = refl
  items_resourced _ = refl

  -- ---- of the same length

  module _ (same : (x : Item) → length (source x) ≡ length x.source) where
    item_same : (x : Item) → item_marks (resourced_item x) ≡ item_marks x
    item_same x = ap (λ (n : ℕ). begun x.start (ended (x.start + n) (marks x.value)) ++ optional_marks alias_marks x.alias) (same x)

    list_same : (xs : List Item) → map item_marks (map resourced_item xs) ≡ map item_marks xs
    list_same [] = refl
    list_same (x ∷ xs) = ap (λ (ms : List Mark). ms ∷ map item_marks (map resourced_item xs)) (item_same x) ∙ ap (λ (l : List (List Mark)). item_marks x ∷ l) (list_same xs)

    items_same : (star : Option ℕ) (xs : List Item) → items_marks star (map resourced_item xs) ≡ items_marks star xs
    items_same None xs = ap commas (list_same xs)
    items_same (Some at) xs = ap (λ (l : List (List Mark)). items_marks (Some at) [] ++ further l) (list_same xs)

    clause_same : (c : Clause) → clause_marks (resourced_clause c) ≡ clause_marks c
    clause_same (tree.with_rows p x) = rw (items_same p.star p.items) refl
    clause_same (tree.return_rows p) = rw (items_same p.star p.items) refl
    clause_same _ = refl

    clauses_same : (cs : List Clause) → all_marks (map resourced_clause cs) ≡ all_marks cs
    clauses_same [] = refl
    clauses_same (c ∷ cs) = ap (λ (ms : List Mark). ms ++ all_marks (map resourced_clause cs)) (clause_same c) ∙ ap (λ (ms : List Mark). clause_marks c ++ ms) (clauses_same cs)

    columns_same : (star : Option ℕ) (xs : List Item) → HasColumns star xs → HasColumns star (map resourced_item xs)
    columns_same None [] h = absurd h
    columns_same None (x ∷ xs) h = tt
    columns_same (Some at) xs h = tt

    projection_same : (p : Projection) → IsProjection p → IsProjection (resourced_projection p)
    projection_same p h = (columns_same p.star p.items h.0, all_mapped resourced_item (λ x. IsWellFormed x.value) (λ x. IsWellFormed x.value) (λ x i. i) p.items h.1, h.2, h.3, h.4)

    formed_same : (c : Clause) → IsClause c → IsClause (resourced_clause c)
    formed_same (tree.with_rows p x) h = (projection_same p h.0, all_mapped resourced_item (λ i. IsNamed i.value i.alias) (λ i. IsNamed i.value i.alias) (λ i n. n) p.items h.1, h.2)
    formed_same (tree.return_rows p) h = projection_same p h
    formed_same _ h = h

    kind_same : (c : Clause) → kind_of (resourced_clause c) ≡ kind_of c
    kind_same (tree.with_rows p x) = refl
    kind_same (tree.return_rows p) = refl
    kind_same _ = refl

    kinds_same : (cs : List Clause) → kinds (map resourced_clause cs) ≡ kinds cs
    kinds_same [] = refl
    kinds_same (c ∷ cs) = rw (kind_same c, kinds_same cs) refl

    -- read from another text that has these sources
    resourced_reads : (text other : List ℕ) (tokens : List Token) (q : Query) → Reads text tokens q → AllByRecursion (λ c. AllByRecursion (HasSource other) (items_of (resourced_clause c))) q.clauses → Reads other tokens (resourced q)
    resourced_reads text other tokens q reads sources = record {
      fit = subst (Fit tokens) (ap (λ (ms : List Mark). ms ++ flag q.semicolon (sign s.Semicolon)) (sym (clauses_same q.clauses))) reads.fit;
      sources = all_mapped resourced_clause (λ c. AllByRecursion (HasSource other) (items_of (resourced_clause c))) (λ c. AllByRecursion (HasSource other) (items_of c)) (λ c h. h) q.clauses sources;
      well_formed = (all_mapped resourced_clause IsClause IsClause formed_same q.clauses reads.well_formed.0, subst (AreParts false) (sym (kinds_same q.clauses)) reads.well_formed.1);
    }

-- ---- a text long enough, of one letter

abbrev letter : ℕ
letter = 97

abbrev total : {A : Type 0} → (A → ℕ) → List A → ℕ
total f [] = 0
total f (x ∷ xs) = f x + total f xs

within_total : {A : Type 0} (f : A → ℕ) (n : ℕ) (xs : List A) → total f xs ≤ n → AllByRecursion (λ x. f x ≤ n) xs
within_total f n [] le = tt
within_total f n (x ∷ xs) le = (omega arith, within_total f n xs (omega arith))

abbrev item_reach : Item → ℕ
item_reach x = x.start + length x.source

abbrev clause_reach : Clause → ℕ
clause_reach c = total item_reach (items_of c)

abbrev token_reach : Token → ℕ
token_reach t = t.start + t.finish

abbrev letters : ℕ → List ℕ
letters n = replicate n letter

abbrev in_letters : Item → List ℕ
in_letters x = letters (length x.source)

in_letters_same : (x : Item) → length (in_letters x) ≡ length x.source
in_letters_same x = length-replicate (length x.source) letter

letters_cut : (n at size : ℕ) → at + size ≤ n → letters size ≡ slice_range (letters n) at (at + length (letters size))
letters_cut n at size le =
    let len : (at + length (letters size)) - at ≡ size = omega (arith, length-replicate size letter) in
    sym (ap (λ (m : ℕ). take m (drop at (letters n))) len ∙ ap (take size) (drop-replicate at n letter) ∙ take-replicate size (n - at) letter (omega arith))

item_within : (n : ℕ) (x : Item) → item_reach x ≤ n → HasSource (letters n) (resourced_item in_letters x)
item_within n x le = letters_cut n x.start (length x.source) le

clause_within : (n : ℕ) (c : Clause) → clause_reach c ≤ n → AllByRecursion (HasSource (letters n)) (items_of (resourced_clause in_letters c))
clause_within n c le =
    subst (AllByRecursion (HasSource (letters n))) (sym (items_resourced in_letters c))
    (all_mapped (resourced_item in_letters) (λ x. item_reach x ≤ n) (HasSource (letters n)) (item_within n) (items_of c) (within_total item_reach n (items_of c) le))

letters_ascii : (n : ℕ) → IsAscii (letters n)
letters_ascii zero i = omega arith
letters_ascii (suc n) zero = omega arith
letters_ascii (suc n) (suc i) = letters_ascii n i

token_within : (n : ℕ) (t : Token) → token_reach t ≤ n → Placed (letters n) t
token_within n t le = record {
  start = IsCharBoundary-from_ascii (letters n) t.start (letters_ascii n) (omega (arith, length-replicate n letter));
  finish = IsCharBoundary-from_ascii (letters n) t.finish (letters_ascii n) (omega (arith, length-replicate n letter));
}

-- ---- and back

abbrev from_text : List ℕ → Item → List ℕ
from_text text x = slice_range text x.start (x.start + length x.source)

item_back : (text : List ℕ) (x : Item) → HasSource text x → resourced_item (from_text text) (resourced_item in_letters x) ≡ x
item_back text x h = ap (λ (n : ℕ). record x { source = slice_range text x.start (x.start + n) }) (in_letters_same x) ∙ ap (λ (l : List ℕ). record x { source = l }) (sym h)

items_back : (text : List ℕ) (xs : List Item) → AllByRecursion (HasSource text) xs → map (resourced_item (from_text text)) (map (resourced_item in_letters) xs) ≡ xs
items_back text [] h = refl
items_back text (x ∷ xs) h = rw (item_back text x h.0, items_back text xs h.1) refl

clause_back : (text : List ℕ) (c : Clause) → AllByRecursion (HasSource text) (items_of c) → resourced_clause (from_text text) (resourced_clause in_letters c) ≡ c
clause_back text (tree.with_rows p x) h = ap (λ (xs : List Item). tree.with_rows (record p { items = xs }) x) (items_back text p.items h)
clause_back text (tree.return_rows p) h = ap (λ (xs : List Item). tree.return_rows (record p { items = xs })) (items_back text p.items h)
clause_back text _ h = refl

clauses_back : (text : List ℕ) (cs : List Clause) → AllByRecursion (λ c. AllByRecursion (HasSource text) (items_of c)) cs → map (resourced_clause (from_text text)) (map (resourced_clause in_letters) cs) ≡ cs
clauses_back text [] h = refl
clauses_back text (c ∷ cs) h = rw (clause_back text c h.0, clauses_back text cs h.1) refl

query_back : (text : List ℕ) (q : Query) → AllByRecursion (λ c. AllByRecursion (HasSource text) (items_of c)) q.clauses → resourced (from_text text) (resourced in_letters q) ≡ q
query_back text q h = ap (λ (cs : List Clause). record q { clauses = cs }) (clauses_back text q.clauses h)

-- ---- the law

module _ (exact : ExpressionsAreExact) (opened : ExpressionsOpen) (readings : ReadingClausesAreExact) (updatings : UpdatingClausesAreExact) where
  in_letters_found : (n : ℕ) (text : List ℕ) (tokens : List Token) (q : Query) → total token_reach tokens ≤ n → total clause_reach q.clauses ≤ n → Reads text tokens q → query_of (letters n) tokens ≡ Some (resourced in_letters q)
  in_letters_found n text tokens q few short reads =
      let placed : AllByRecursion (Placed (letters n)) tokens = all_weaker (λ t. token_reach t ≤ n) (Placed (letters n)) (token_within n) tokens (within_total token_reach n tokens few) in
      let sources = all_weaker (λ c. clause_reach c ≤ n) (λ c. AllByRecursion (HasSource (letters n)) (items_of (resourced_clause in_letters c))) (clause_within n) q.clauses (within_total clause_reach n q.clauses short) in
      read_complete (letters n) (IsUtf8-from_ascii (letters n) (letters_ascii n)) exact opened readings updatings tokens (resourced in_letters q) placed
      (resourced_reads in_letters in_letters_same text (letters n) tokens q reads sources)

  pub one_reading : OneReading
  one_reading text tokens q r reads other =
      let n = total token_reach tokens + total clause_reach q.clauses + total clause_reach r.clauses in
      let first = in_letters_found n text tokens q (omega arith) (omega arith) reads in
      let second = in_letters_found n text tokens r (omega arith) (omega arith) other in
      let same : resourced in_letters q ≡ resourced in_letters r = cc in
      sym (query_back text q reads.sources) ∙ ap (resourced (from_text text)) same ∙ query_back text r other.sources
