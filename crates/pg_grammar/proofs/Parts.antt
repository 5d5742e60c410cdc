-- The parts of a query, and its last one.
use Rattle.std.proofs.Common.{◌≡◌, inl, inr, ℕ, zero, suc, ◌+◌, ◌<◌, ◌≤◌, true, false, List, [], ◌∷◌, ◌++◌, length, map, Some, None, refl, sym, ap, subst, ◌∙◌, append_assoc, length-append, arith}
use Rattle.std.proofs.lemmas.List.{append-nil}
use Rattle.std.specs.List.{AllByRecursion}
use Rattle.pg_meaning.specs.declared.lexemes.Keyword.TheVariants as k
use Rattle.pg_meaning.specs.ListsLaws.{all_joined, all_weaker, all_both}
use Rattle.pg_meaning.specs.Tokens.{Token, is_empty}
use Rattle.pg_meaning.specs.Tree.{Expression, Clause}
use Rattle.pg_meaning.specs.Tree as tree
use Rattle.pg_meaning.specs.Grammar.{Mark, concatenated, clause_marks, Fit, IsNonEmpty, AreParts, Kind, reading, updating, passing, returning, kind_of, items_of}
use Rattle.pg_meaning.specs.Parse as parse
use Rattle.pg_meaning.specs.Parse.{Parser, Test, ◌>>=◌, pure, refuse, branch, sees_keyword, begins_reading, begins_updating, many, with_clause, return_clause, last, parts}
use Rattle.pg_grammar.specs.Rules.{Exactly, ExpressionsAreExact, ExpressionsOpen, ReadingClausesAreExact, UpdatingClausesAreExact, ClauseEnds, ClauseSpelled}
use Rattle.pg_grammar.proofs.Beginnings.{next_kind, is_kind, same_kind, reading_is, updating_is, passing_is, returning_is, kind_ends, clause_first}
use Rattle.pg_grammar.proofs.Combinators.{Fitting, Sequence, Made, Only, Either, After, fitting, fewer, narrowed, restated, past_exact, sequence_exact, made_exact, pure_exact, either_exact, rows_exact, sequence_fits, sequence_of, no_tokens}
use Rattle.pg_grammar.proofs.Fits.{all_front, all_back}
use Rattle.pg_grammar.proofs.Items.{IsCut}
use Rattle.pg_grammar.proofs.ProjectionClauses.{IsTextClause, IsOfKind, return_exact, with_exact}
use Rattle.pg_grammar.proofs.Shapes.{kinds, AllOf, Ending, shape_of, parts_made}

-- ---- clauses in a row

abbrev pub all_marks : List Clause → List Mark
all_marks cs = concatenated (map clause_marks cs)

marks_joined : (cs ds : List Clause) → all_marks (cs ++ ds) ≡ all_marks cs ++ all_marks ds
marks_joined [] ds = refl
marks_joined (c ∷ cs) ds = ap (λ (ms : List Mark). clause_marks c ++ ms) (marks_joined cs ds) ∙ sym (append_assoc (clause_marks c) (all_marks cs) (all_marks ds))

three_marks : (rs us ds : List Clause) → all_marks (rs ++ us ++ ds) ≡ all_marks rs ++ (all_marks us ++ all_marks ds)
three_marks rs us ds = marks_joined (rs ++ us) ds ∙ ap (λ (ms : List Mark). ms ++ all_marks ds) (marks_joined rs us) ∙ append_assoc (all_marks rs) (all_marks us) (all_marks ds)

-- ---- what stands behind

-- no clause
pub record AfterQuery (ts : List Token) : Type 0 where
  pub none : next_kind ts ≡ None
  pub ends : ClauseEnds ts

-- no clause that reads or updates
record AfterUpdates (ts : List Token) : Type 0 where
  no_reading : is_kind reading (next_kind ts) ≡ false
  no_updating : is_kind updating (next_kind ts) ≡ false
  ends : ClauseEnds ts

clause_begins : (c : Clause) (cs : List Clause) (y more : List Token) → Fit y (all_marks (c ∷ cs)) → next_kind (y ++ more) ≡ Some (kind_of c)
clause_begins c cs y more fits = clause_first c (all_marks cs) y more fits

clauses_end : (cs : List Clause) (y more : List Token) → AreParts false (kinds cs) → Fit y (all_marks cs) → ClauseEnds (y ++ more)
clauses_end [] y more are fits = absurd (let bad : false ≡ true = are in cc)
clauses_end (c ∷ cs) y more are fits = kind_ends (kind_of c) (y ++ more) (ap (is_kind (kind_of c)) (clause_begins c cs y more fits) ∙ same_kind (kind_of c))

ending_begins : (us ds : List Clause) (y more : List Token) → Ending us ds → Fit y (all_marks ds) → AfterQuery more → AfterUpdates (y ++ more)
ending_begins us ds y more (inl e) fits after =
    let begins : next_kind (y ++ more) ≡ Some passing = clause_begins e.0 e.1 y more (subst (λ (l : List Clause). Fit y (all_marks l)) e.2 fits) ∙ ap (λ (a : Kind). Some a) e.3 in
    record { no_reading = rw begins refl; no_updating = rw begins refl; ends = kind_ends passing (y ++ more) (rw begins refl) }
ending_begins us ds y more (inr (inl e)) fits after =
    let begins : next_kind (y ++ more) ≡ Some returning = clause_begins e.0 [] y more (subst (λ (l : List Clause). Fit y (all_marks l)) e.1 fits) ∙ ap (λ (a : Kind). Some a) e.2 in
    record { no_reading = rw begins refl; no_updating = rw begins refl; ends = kind_ends returning (y ++ more) (rw begins refl) }
ending_begins us ds y more (inr (inr e)) fits after =
    let none : y ≡ [] = no_tokens y (subst (λ (l : List Clause). Fit y (all_marks l)) e.1 fits) in
    rw none (record { no_reading = rw after.none refl; no_updating = rw after.none refl; ends = after.ends })

module _ (text : List ℕ) where
  abbrev Sourced : Clause → Type 0
  Sourced c = AllByRecursion (IsCut text) (items_of c)

  -- clauses that read and clauses that update have no items
  no_reading_items : (c : Clause) → kind_of c ≡ reading → Sourced c
  no_reading_items (tree.with_rows p x) e = absurd cc
  no_reading_items (tree.return_rows p) e = absurd cc
  no_reading_items _ e = tt

  no_updating_items : (c : Clause) → kind_of c ≡ updating → Sourced c
  no_updating_items (tree.with_rows p x) e = absurd cc
  no_updating_items (tree.return_rows p) e = absurd cc
  no_updating_items _ e = tt

  -- any number of clauses of one kind
  abbrev Clauses : Kind → List Clause → List Token → Type 0
  Clauses a = Fitting (AllByRecursion (IsOfKind text a)) all_marks

  clauses_exact : {limit : ℕ} {piece : Parser Clause} (a : Kind) (begins : Test) → begins [] ≡ false → ((ts : List Token) → begins ts ≡ is_kind a (next_kind ts))
      → ((c : Clause) → kind_of c ≡ a → Sourced c) → Exactly limit piece (ClauseSpelled a) ClauseEnds → Exactly limit (many begins piece []) (Clauses a) (After begins ClauseEnds)
  clauses_exact a begins none begins_is no_items exact =
      rows_exact begins none (restated exact (λ c front h. fitting ((h.well, no_items c h.is), h.is) h.fits) (λ c front h. record { well = h.well.0.0; is = h.well.1; fits = h.fits }) (λ more h. h))
      (λ c front more h. begins_is (front ++ more) ∙ ap (is_kind a) (clause_first c [] front more (rw append-nil h.fits) ∙ ap (λ (b : Kind). Some b) h.well.1) ∙ same_kind a)
      (λ more h. h) (λ more e. kind_ends a more (sym (begins_is more) ∙ e))

  all_of_kind : (a : Kind) (cs : List Clause) → AllByRecursion (IsOfKind text a) cs → AllByRecursion (IsTextClause text) cs × AllOf a cs
  all_of_kind a cs all = (all_weaker (IsOfKind text a) (IsTextClause text) (λ c h. h.0) cs all, all_weaker (IsOfKind text a) (λ c. kind_of c ≡ a) (λ c h. h.1) cs all)

  -- ---- the parts

  pub record ArePartsOf (cs : List Clause) : Type 0 where
    pub all : AllByRecursion (IsTextClause text) cs
    pub parts : AreParts false (kinds cs)

  abbrev pub PartsSpelled : List Clause → List Token → Type 0
  PartsSpelled = Fitting ArePartsOf all_marks

  -- what stands behind the clauses that read and update
  record Left (us ds : List Clause) : Type 0 where
    all : AllByRecursion (IsTextClause text) ds
    ending : Ending us ds

  abbrev LeftSpelled : List Clause → List Clause → List Clause → List Token → Type 0
  LeftSpelled rs us = Made (λ ds. rs ++ us ++ ds) (Fitting (Left us) all_marks)

  abbrev Passed : List Clause → List Clause → List Clause → List Token → Type 0
  Passed rs us = Sequence (Fitting (IsOfKind text passing) clause_marks) (λ c. Made (λ cs. rs ++ us ++ c ∷ cs) PartsSpelled)

  abbrev Returned : List Clause → List Clause → List Clause → List Token → Type 0
  Returned rs us = Made (λ c. rs ++ us ++ c ∷ []) (Fitting (IsOfKind text returning) clause_marks)

  abbrev Stopped : List Clause → List Clause → List Clause → List Token → Type 0
  Stopped rs us cs front = IsNonEmpty us × Only (rs ++ us) cs front

  left_out : (rs us cs : List Clause) (front : List Token) → Either (Passed rs us) (Either (Returned rs us) (Stopped rs us)) cs front → LeftSpelled rs us cs front
  left_out rs us cs front (inl h) =
      let v = h.second in let others = v.inner.well in
      record { value = h.value ∷ v.value; is = v.is; inner = fitting (record { all = (h.first.well.0, others.all); ending = inl (h.value, v.value, refl, h.first.well.1, others.parts) }) (sequence_fits h (clause_marks h.value) (all_marks v.value) h.first.fits v.inner.fits) }
  left_out rs us cs front (inr (inl h)) = record { value = h.value ∷ []; is = h.is; inner = fitting (record { all = (h.inner.well.0, tt); ending = inr (inl (h.value, refl, h.inner.well.1)) }) (rw append-nil h.inner.fits) }
  left_out rs us cs front (inr (inr h)) = record { value = []; is = h.1.0 ∙ sym (append-nil (rs ++ us)); inner = fitting (record { all = tt; ending = inr (inr (h.0, refl)) }) (rw h.1.1 tt) }

  left_into : (rs us cs : List Clause) (front : List Token) → LeftSpelled rs us cs front → Either (Passed rs us) (Either (Returned rs us) (Stopped rs us)) cs front
  left_into rs us cs front h = by h.value h.is h.inner.well.all h.inner.fits h.inner.well.ending
    where
      by : (ds : List Clause) → cs ≡ rs ++ us ++ ds → AllByRecursion (IsTextClause text) ds → Fit front (all_marks ds) → Ending us ds → Either (Passed rs us) (Either (Returned rs us) (Stopped rs us)) cs front
      by ds is all fits (inl e) =
          let all-is : AllByRecursion (IsTextClause text) (e.0 ∷ e.1) = subst (AllByRecursion (IsTextClause text)) e.2 all in
          let made : cs ≡ rs ++ us ++ e.0 ∷ e.1 = is ∙ ap (λ (l : List Clause). rs ++ us ++ l) e.2 in
          inl (sequence_of e.0 (clause_marks e.0) (all_marks e.1) (subst (λ (l : List Clause). Fit front (all_marks l)) e.2 fits) (λ f p. fitting (all-is.0, e.3) p) (λ g p. record { value = e.1; is = made; inner = fitting (record { all = all-is.1; parts = e.4 }) p }))
      by ds is all fits (inr (inl e)) =
          let all-is : AllByRecursion (IsTextClause text) (e.0 ∷ []) = subst (AllByRecursion (IsTextClause text)) e.1 all in
          let there : Fit front (clause_marks e.0 ++ []) = subst (λ (l : List Clause). Fit front (all_marks l)) e.1 fits in
          inr (inl (record { value = e.0; is = is ∙ ap (λ (l : List Clause). rs ++ us ++ l) e.1; inner = fitting (all-is.0, e.2) (rw append-nil at there) }))
      by ds is all fits (inr (inr e)) = inr (inr (e.0, (is ∙ ap (λ (l : List Clause). rs ++ us ++ l) e.1 ∙ append-nil (rs ++ us), no_tokens front (subst (λ (l : List Clause). Fit front (all_marks l)) e.1 fits))))

  stopped_exact : {limit : ℕ} (rs us : List Clause) → Exactly limit (elim (is_empty us) [ true ↦ refuse | false ↦ pure (rs ++ us) ]) (Stopped rs us) AfterQuery
  stopped_exact rs [] = record { sound = λ ts cs more e. absurd cc; complete = λ cs front more h ends less. absurd h.0 }
  stopped_exact rs (u ∷ us) = restated (pure_exact (rs ++ u ∷ us)) (λ cs front h. (tt, h)) (λ cs front h. h.1) (λ more h. tt)

  module _ (n : ℕ) (exact : ExpressionsAreExact) (opened : ExpressionsOpen) (readings : ReadingClausesAreExact) (updatings : UpdatingClausesAreExact) where
    abbrev whole : Parser Expression
    whole = parse.expr n

    returned_exact : {limit : ℕ} → limit ≤ n + 1 → (rs us : List Clause) → Exactly limit (return_clause text whole >>= λ c. pure (rs ++ us ++ c ∷ [])) (Returned rs us) AfterQuery
    returned_exact less rs us = made_exact (λ c. rs ++ us ++ c ∷ []) (narrowed (fewer less (return_exact text (exact n) opened)) (λ more after. after.ends))

    passed_exact : (l : ℕ) → l ≤ n → (further : Parser (List Clause)) → Exactly l further PartsSpelled AfterQuery → (rs us : List Clause) → Exactly (l + 1) (with_clause text whole >>= λ c. further >>= λ cs. pure (rs ++ us ++ c ∷ cs)) (Passed rs us) AfterQuery
    passed_exact l less further again rs us =
        past_exact 1 taken (fewer (omega arith) (with_exact text (exact n) opened)) (λ c. made_exact (λ cs. rs ++ us ++ c ∷ cs) again) (λ c cs y more h after. clauses_end h.value y more h.inner.well.parts h.inner.fits)
      where
        taken : (c : Clause) (front : List Token) → Fitting (IsOfKind text passing) clause_marks c front → 1 ≤ length front
        taken c [] h = let bad = clause_first c [] [] [] (rw append-nil h.fits) in absurd cc
        taken c (t ∷ front) h = omega arith

    last_exact : {limit : ℕ} → limit ≤ n + 1 → (rs us : List Clause) → Exactly limit (last text whole rs us) (Either (Returned rs us) (Stopped rs us)) AfterQuery
    unfolding last
    last_exact less rs us =
        either_exact (sees_keyword k.Return) (returned_exact less rs us) (stopped_exact rs us)
        (λ cs front more h. returning_is (front ++ more) ∙ ap (is_kind returning) (clause_first h.value [] front more (rw append-nil h.inner.fits) ∙ ap (λ (a : Kind). Some a) h.inner.well.1))
        (λ cs front more h after. rw h.1.1 (returning_is more ∙ ap (is_kind returning) after.none))

    ending_exact : (l : ℕ) → l ≤ n → (further : Parser (List Clause)) → Exactly l further PartsSpelled AfterQuery → (rs us : List Clause)
        → Exactly (l + 1) (branch (sees_keyword k.With) (with_clause text whole >>= λ c. further >>= λ cs. pure (rs ++ us ++ c ∷ cs)) (last text whole rs us)) (LeftSpelled rs us) AfterQuery
    ending_exact l less further again rs us =
        restated (either_exact (sees_keyword k.With) (passed_exact l less further again rs us) (last_exact (omega arith) rs us) seen unseen) (left_out rs us) (left_into rs us) (λ more h. h)
      where
        seen : (cs : List Clause) (front more : List Token) → Passed rs us cs front → sees_keyword k.With (front ++ more) ≡ true
        seen cs front more h =
            let fits : Fit front (clause_marks h.value ++ all_marks h.second.value) = sequence_fits h (clause_marks h.value) (all_marks h.second.value) h.first.fits h.second.inner.fits in
            passing_is (front ++ more) ∙ ap (is_kind passing) (clause_first h.value (all_marks h.second.value) front more fits ∙ ap (λ (a : Kind). Some a) h.first.well.1)

        unseen : (cs : List Clause) (front more : List Token) → Either (Returned rs us) (Stopped rs us) cs front → AfterQuery more → sees_keyword k.With (front ++ more) ≡ false
        unseen cs front more (inl h) after = passing_is (front ++ more) ∙ ap (is_kind passing) (clause_first h.value [] front more (rw append-nil h.inner.fits) ∙ ap (λ (a : Kind). Some a) h.inner.well.1)
        unseen cs front more (inr h) after = rw h.1.1 (passing_is more ∙ ap (is_kind passing) after.none)

    abbrev Shaped : List Clause → List Token → Type 0
    Shaped = Sequence (Clauses reading) (λ rs. Sequence (Clauses updating) (LeftSpelled rs))

    shaped_out : (cs : List Clause) (front : List Token) → Shaped cs front → PartsSpelled cs front
    shaped_out cs front h =
        let q = h.second in let v = q.second in
        let rs = h.value in let us = q.value in let ds = v.value in
        let r = all_of_kind reading rs h.first.well in let u = all_of_kind updating us q.first.well in
        let all = all_joined (IsTextClause text) (rs ++ us) ds (all_joined (IsTextClause text) rs us r.0 u.0) v.inner.well.all in
        subst (λ (l : List Clause). PartsSpelled l front) (sym v.is)
        (fitting (record { all = all; parts = parts_made rs us ds r.1 u.1 v.inner.well.ending })
        (rw (three_marks rs us ds) (sequence_fits h (all_marks rs) (all_marks us ++ all_marks ds) h.first.fits (sequence_fits q (all_marks us) (all_marks ds) q.first.fits v.inner.fits))))

    shaped_into : (cs : List Clause) (front : List Token) → PartsSpelled cs front → Shaped cs front
    shaped_into cs front h =
        let s = shape_of cs h.well.parts in
        let rs = s.reads in let us = s.updates in let ds = s.left in
        let all : AllByRecursion (IsTextClause text) (rs ++ us ++ ds) = subst (AllByRecursion (IsTextClause text)) s.whole h.well.all in
        let before = all_front (IsTextClause text) (rs ++ us) ds all in
        let fits : Fit front (all_marks rs ++ (all_marks us ++ all_marks ds)) = subst (Fit front) (ap all_marks s.whole ∙ three_marks rs us ds) h.fits in
        sequence_of rs (all_marks rs) (all_marks us ++ all_marks ds) fits (λ f p. fitting (all_both (IsTextClause text) (λ c. kind_of c ≡ reading) rs (all_front (IsTextClause text) rs us before) s.reading) p)
        (λ g p. sequence_of us (all_marks us) (all_marks ds) p (λ f p. fitting (all_both (IsTextClause text) (λ c. kind_of c ≡ updating) us (all_back (IsTextClause text) rs us before) s.updating) p)
        (λ g p. record { value = ds; is = s.whole; inner = fitting (record { all = all_back (IsTextClause text) (rs ++ us) ds all; ending = s.ending }) p }))

    -- what stands behind the clauses that read
    reads_end : (rs cs : List Clause) (y more : List Token) → Sequence (Clauses updating) (LeftSpelled rs) cs y → AfterQuery more → After begins_reading ClauseEnds (y ++ more)
    reads_end rs cs y more h after =
        let v = h.second in
        let left : AfterUpdates (h.g ++ more) = ending_begins h.value v.value h.g more v.inner.well.ending v.inner.fits after in
        let there : y ++ more ≡ h.f ++ (h.g ++ more) = ap (λ (r : List Token). r ++ more) h.whole ∙ append_assoc h.f h.g more in
        rw there (by h.value h.first.well h.first.fits left)
      where
        by : (us : List Clause) → AllByRecursion (IsOfKind text updating) us → Fit h.f (all_marks us) → AfterUpdates (h.g ++ more) → After begins_reading ClauseEnds (h.f ++ (h.g ++ more))
        by [] all fits left = rw (no_tokens h.f fits) (reading_is (h.g ++ more) ∙ left.no_reading, left.ends)
        by (u ∷ us) all fits left =
            let begins : next_kind (h.f ++ (h.g ++ more)) ≡ Some updating = clause_begins u us h.f (h.g ++ more) fits ∙ ap (λ (a : Kind). Some a) all.0.1 in
            (reading_is (h.f ++ (h.g ++ more)) ∙ rw begins refl, kind_ends updating (h.f ++ (h.g ++ more)) (rw begins refl))

    -- with a token less
    lower : (m l : ℕ) → l ≤ suc m → ((l : ℕ) → l ≤ m → l ≤ n → Exactly (l + 1) (parts text whole m) PartsSpelled AfterQuery) → l ≤ n → Exactly l (parts text whole m) PartsSpelled AfterQuery
    lower m zero less again short = fewer (omega arith) (again zero (omega arith) (omega arith))
    lower m (suc l) less again short = fewer (omega arith) (again l (omega arith) (omega arith))

    pub parts_exact : (m l : ℕ) → l ≤ m → l ≤ n → Exactly (l + 1) (parts text whole m) PartsSpelled AfterQuery
    unfolding parts
    parts_exact zero l less short = record { sound = λ ts cs more e. absurd cc; complete = λ cs front more h ends few. none cs front more h few }
      where
        none : (cs : List Clause) (front more : List Token) → PartsSpelled cs front → length (front ++ more) < l + 1 → refuse (front ++ more) ≡ Some (cs, more)
        none [] front more h few = absurd (let bad : false ≡ true = h.well.parts in cc)
        none (c ∷ cs) [] [] h few = let bad = clause_begins c cs [] [] h.fits in absurd cc
        none cs (t ∷ front) more h few = absurd (omega arith)
        none cs front (t ∷ more) h few = absurd (omega (arith, length-append front (t ∷ more)))
    parts_exact (suc m) l less short =
        restated
        (sequence_exact (fewer (omega arith) (clauses_exact reading begins_reading refl reading_is no_reading_items (readings n)))
        (λ rs. sequence_exact (fewer (omega arith) (clauses_exact updating begins_updating refl updating_is no_updating_items (updatings n)))
        (ending_exact l short (parts text whole m) (lower m l less (parts_exact m) short) rs)
        (λ us cs y more h after. let left = ending_begins us h.value y more h.inner.well.ending h.inner.fits after in (updating_is (y ++ more) ∙ left.no_updating, left.ends)))
        reads_end)
        shaped_out shaped_into (λ more h. h)
