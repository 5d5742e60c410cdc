-- WITH and RETURN.
use Rattle.std.proofs.Common.{◌≡◌, ℕ, ◌+◌, List, [], ◌++◌, refl, sym, subst, arith}
use Rattle.std.proofs.lemmas.List.{append-nil}
use Rattle.std.specs.List.{AllByRecursion}
use Rattle.pg_meaning.specs.declared.lexemes.Keyword.TheVariants as k
use Rattle.pg_meaning.specs.ListsLaws.{all_weaker, all_both}
use Rattle.pg_meaning.specs.Tokens.{Token}
use Rattle.pg_meaning.specs.Tree.{Expression, Projection, Clause}
use Rattle.pg_meaning.specs.Tree as tree
use Rattle.pg_meaning.specs.Grammar.{key, keyed, optional_marks, projection_marks, clause_marks, IsProjection, IsClause, IsWellFormed, IsNamed, Kind, passing, returning, kind_of, items_of}
use Rattle.pg_meaning.specs.Parse.{Parser, projection, return_item, with_item, with_clause, return_clause}
use Rattle.pg_grammar.specs.Rules.{Exactly, Exact, ExpressionsOpen, ClauseEnds}
use Rattle.pg_grammar.proofs.Combinators.{Fitting, Sequence, Behind, Made, fitting, restated, leading_exact, made_exact, sequence_exact, keyword_exact, sequence_fits, sequence_of, behind_fits, behind_of, ending}
use Rattle.pg_grammar.proofs.Conditions.{MayHave, whole_exact}
use Rattle.pg_grammar.proofs.Items.{IsCut, IsItem, IsNamedItem, item_exact, named_exact}
use Rattle.pg_grammar.proofs.Projections.{Projected, projection_exact}
use Rattle.pg_grammar.proofs.SortItems.{keyed_exact, keyed_from}
use Rattle.pg_grammar.proofs.Stages.{From, from_clause}

-- a clause whose items have their sources from the text
abbrev pub IsTextClause : List ℕ → Clause → Type 0
IsTextClause text c = IsClause c × AllByRecursion (IsCut text) (items_of c)

abbrev pub IsOfKind : List ℕ → Kind → Clause → Type 0
IsOfKind text kind c = IsTextClause text c × (kind_of c ≡ kind)

projection_is : (text : List ℕ) (p : Projection) → Projected (IsItem text) p → IsProjection p × AllByRecursion (IsCut text) p.items
projection_is text p h = ((h.0, all_weaker (IsItem text) (λ x. IsWellFormed x.value) (λ x i. i.0) p.items h.1, h.2, h.3, h.4), all_weaker (IsItem text) (IsCut text) (λ x i. i.1) p.items h.1)

projection_of : (text : List ℕ) (p : Projection) → IsProjection p → AllByRecursion (IsCut text) p.items → Projected (IsItem text) p
projection_of text p h sources = (h.0, all_both (λ x. IsWellFormed x.value) (IsCut text) p.items h.1 sources, h.2, h.3, h.4)

named_is : (text : List ℕ) (p : Projection) → Projected (IsNamedItem text) p → Projected (IsItem text) p × AllByRecursion (λ x. IsNamed x.value x.alias) p.items
named_is text p h = ((h.0, all_weaker (IsNamedItem text) (IsItem text) (λ x i. i.0) p.items h.1, h.2, h.3, h.4), all_weaker (IsNamedItem text) (λ x. IsNamed x.value x.alias) (λ x i. i.1) p.items h.1)

named_of : (text : List ℕ) (p : Projection) → Projected (IsItem text) p → AllByRecursion (λ x. IsNamed x.value x.alias) p.items → Projected (IsNamedItem text) p
named_of text p h named = (h.0, all_both (IsItem text) (λ x. IsNamed x.value x.alias) p.items h.1 named, h.2, h.3, h.4)

module _ (text : List ℕ) {n : ℕ} {whole : Parser Expression} (exact : Exact n 1 whole) (opened : ExpressionsOpen) where
  returned : Exactly n (projection whole (return_item text whole)) (Fitting (Projected (IsItem text)) projection_marks) (From 4)
  returned = projection_exact exact opened (λ x h. h.0) (item_exact text exact opened)

  passed : Exactly n (projection whole (with_item text whole)) (Fitting (Projected (IsNamedItem text)) projection_marks) (From 4)
  passed = projection_exact exact opened (λ x h. h.0.0) (named_exact text whole (item_exact text exact opened))

  abbrev ReturnParts : Clause → List Token → Type 0
  ReturnParts = Behind (key k.Return) (Made tree.return_rows (Fitting (Projected (IsItem text)) projection_marks))

  pub return_exact : Exactly (n + 1) (return_clause text whole) (Fitting (IsOfKind text returning) clause_marks) ClauseEnds
  unfolding return_clause
  return_exact = restated (leading_exact (keyword_exact k.Return) (made_exact tree.return_rows returned)) out into (λ more ends. let from = from_clause more ends in omega arith)
    where
      out : (c : Clause) (front : List Token) → ReturnParts c front → Fitting (IsOfKind text returning) clause_marks c front
      out c front h =
          let v = h.inner in
          subst (λ y. Fitting (IsOfKind text returning) clause_marks y front) (sym v.is) (fitting (projection_is text v.value v.inner.well, refl) (behind_fits h (projection_marks v.value) v.inner.fits))

      into : (c : Clause) (front : List Token) → Fitting (IsOfKind text returning) clause_marks c front → ReturnParts c front
      into (tree.return_rows p) front h = behind_of h.fits (λ g f. record { value = p; is = refl; inner = fitting (projection_of text p h.well.0.0 h.well.0.1) f })
      into _ front h = absurd (let bad = h.well.1 in cc)

  abbrev Condition : Projection → Clause → List Token → Type 0
  Condition p = Made (tree.with_rows p) (MayHave k.Where)

  abbrev WithParts : Clause → List Token → Type 0
  WithParts = Behind (key k.With) (Sequence (Fitting (Projected (IsNamedItem text)) projection_marks) Condition)

  pub with_exact : Exactly (n + 1) (with_clause text whole) (Fitting (IsOfKind text passing) clause_marks) ClauseEnds
  unfolding with_clause
  with_exact = restated (leading_exact (keyword_exact k.With) (sequence_exact passed (λ p. made_exact (tree.with_rows p) (keyed_exact (whole_exact exact) k.Where 4 (λ w. refl))) follows)) out into from_clause
    where
      follows : (p : Projection) (c : Clause) (y more : List Token) → Condition p c y → From 5 more → From 4 (y ++ more)
      follows p c y more h from = keyed_from k.Where 4 (λ w. refl) h.value [] y more (rw append-nil h.inner.fits) (λ z f. ending (From 5) z more f from)

      out : (c : Clause) (front : List Token) → WithParts c front → Fitting (IsOfKind text passing) clause_marks c front
      out c front h =
          let q = h.inner in let v = q.second in
          let named = named_is text q.value q.first.well in
          let is = projection_is text q.value named.0 in
          subst (λ y. Fitting (IsOfKind text passing) clause_marks y front) (sym v.is)
          (fitting (((is.0, named.1, v.inner.well), is.1), refl) (behind_fits h (projection_marks q.value ++ optional_marks (keyed k.Where) v.value) (sequence_fits q (projection_marks q.value) (optional_marks (keyed k.Where) v.value) q.first.fits v.inner.fits)))

      into : (c : Clause) (front : List Token) → Fitting (IsOfKind text passing) clause_marks c front → WithParts c front
      into (tree.with_rows p x) front h =
          let w = h.well.0 in
          behind_of h.fits (λ g f. sequence_of p (projection_marks p) (optional_marks (keyed k.Where) x) f (λ f r. fitting (named_of text p (projection_of text p w.0.0 w.1) w.0.1) r) (λ g r. record { value = x; is = refl; inner = fitting w.0.2 r }))
      into _ front h = absurd (let bad = h.well.1 in cc)
