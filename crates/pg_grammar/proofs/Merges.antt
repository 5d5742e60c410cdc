-- The clause MERGE, with its ON.
use Rattle.std.proofs.Common.{◌≡◌, ℕ, ◌+◌, Bool, List, [], ◌∷◌, ◌++◌, map, refl, sym, ap, subst}
use Rattle.std.specs.List.{AllByRecursion}
use Rattle.pg_meaning.specs.declared.lexemes.Keyword.TheVariants as k
use Rattle.pg_meaning.specs.Tokens.{Token}
use Rattle.pg_meaning.specs.Tree.{Expression, PathPattern, SetItem, Clause}
use Rattle.pg_meaning.specs.Tree as tree
use Rattle.pg_meaning.specs.Grammar.{Mark, key, commas, concatenated, path_marks, set_marks, event_mark, on_marks, AreSetItems, Fit}
use Rattle.pg_meaning.specs.Grammar as grammar
use Rattle.pg_meaning.specs.Parse as parse
use Rattle.pg_meaning.specs.Parse.{Parser, ◌>>=◌, ◌>>◌, ◌<$>◌, is_keyword, sees_keyword, many, event, on_items, merge_clause}
use Rattle.pg_grammar.specs.Rules.{Exactly, Ends, PathSpelled, NoHop, ClauseEnds, ClauseSpelled, LabelsAreExact, Anything}
use Rattle.pg_grammar.proofs.ClauseEnds.{end_follow, end_comma, end_hop, end_on, on_follow, on_comma}
use Rattle.pg_grammar.proofs.Combinators.{choice_exact, Is, Fitting, Sequence, Behind, Made, restated, keyword_exact, sequence_exact, behind_exact, leading_exact, made_exact, rows_exact, sequence_fits, sequence_of, behind_fits, behind_of, no_tokens, AfterItems, fitting}
use Rattle.pg_grammar.proofs.FirstTokens.{shown}
use Rattle.pg_grammar.proofs.Conditions.{Whole}
use Rattle.pg_grammar.proofs.SetItems.{SetsSpelled, sets_exact}
use Rattle.pg_grammar.proofs.Matches.{PathFits, path_fits}

-- ---- CREATE or MATCH

event_exact : {limit : ℕ} → Exactly limit event (Is event_mark) Anything
unfolding parse.same_keyword
event_exact = choice_exact (sees_keyword k.Create) event_mark (keyword_exact k.Create) (keyword_exact k.Match) (λ t more h. rw h.spelled.1 refl) (λ t more h. rw h.spelled.1 refl)

-- ---- ON

abbrev On : Type 0
On = Bool × List SetItem

abbrev on_with : Bool → List SetItem → On
on_with b xs = (b, xs)

abbrev on_mark : On → List Mark
on_mark o = key k.On ∷ event_mark o.0 ∷ key k.Set ∷ commas (map set_marks o.1)

abbrev OnSpelled : On → List Token → Type 0
OnSpelled = Fitting (λ o. AreSetItems o.1) on_mark

abbrev Setting : Bool → On → List Token → Type 0
Setting b = Behind (key k.Set) (Made (on_with b) SetsSpelled)

abbrev OnParts : On → List Token → Type 0
OnParts = Behind (key k.On) (Sequence (Is event_mark) Setting)

on_exact : {limit : ℕ} {whole : Parser Expression} → Exactly limit whole Whole (Ends 1) → LabelsAreExact → Exactly limit (on_items whole) OnSpelled (AfterItems (Ends 1))
unfolding on_items
on_exact {limit} {whole} exact labels = restated
    (behind_exact (keyword_exact k.On)
    (sequence_exact event_exact
    (λ b. behind_exact (keyword_exact k.Set) (made_exact (on_with b) (sets_exact exact labels)))
    (λ b o front more h ends. tt)))
    out into (λ more ends. ends)
  where
    out : (o : On) (front : List Token) → OnParts o front → OnSpelled o front
    out o front h =
        let q = h.inner in let p = q.second in let v = p.inner in
        subst (λ y. OnSpelled y front) (sym v.is) (fitting v.inner.well (behind_fits h _ (sequence_fits q (event_mark q.value ∷ []) _ q.first.fits (behind_fits p _ v.inner.fits))))

    into : (o : On) (front : List Token) → OnSpelled o front → OnParts o front
    into o front h = behind_of h.fits (λ g p. sequence_of o.0 (event_mark o.0 ∷ []) _ p (λ f p. fitting tt p) (λ g p. behind_of p (λ g p. record { value = o.1; is = refl; inner = fitting h.well p })))

-- ---- any number of them

abbrev OnsSpelled : List On → List Token → Type 0
OnsSpelled = Fitting (AllByRecursion (λ o. AreSetItems o.1)) on_marks

on_marks-of : (os : List On) → on_marks os ≡ concatenated (map on_mark os)
on_marks-of [] = refl
on_marks-of (o ∷ os) = ap (λ (ms : List Mark). on_mark o ++ ms) (on_marks-of os)

ons_exact : {limit : ℕ} {whole : Parser Expression} → Exactly limit whole Whole (Ends 1) → LabelsAreExact → Exactly limit (many (sees_keyword k.On) (on_items whole) []) OnsSpelled ClauseEnds
unfolding parse.same_keyword
ons_exact exact labels =
    restated (rows_exact (sees_keyword k.On) refl (on_exact exact labels) (λ o front more h. shown (is_keyword k.On) (on_mark o) front more (λ l h. rw h.1 refl) h.fits) (λ more ends. (end_on more ends, (end_comma more ends, end_follow more ends))) (λ more e. (on_comma more e, on_follow more e)))
    (λ os front h. fitting h.well (rw on_marks-of h.fits))
    (λ os front h. fitting h.well (rw on_marks-of at h.fits))
    (λ more ends. ends)

-- ---- MERGE

abbrev BehindPath : PathPattern → Clause → List Token → Type 0
BehindPath p = Made (tree.merge p) OnsSpelled

abbrev pub MergeParts : Clause → List Token → Type 0
MergeParts = Behind (key k.Merge) (Sequence PathFits BehindPath)

-- what stands behind the path
ons_end : (os : List On) (front more : List Token) → OnsSpelled os front → ClauseEnds more → NoHop (front ++ more)
ons_end [] front more h ends = rw (no_tokens front h.fits) (end_hop more ends)
ons_end (o ∷ os) [] more h ends = absurd h.fits
ons_end (o ∷ os) (t ∷ front) more h ends = rw h.fits.0.spelled.1 refl

pub merge_exact : {limit : ℕ} {whole : Parser Expression} → Exactly limit whole Whole (Ends 1) → Exactly limit (parse.path whole) PathSpelled NoHop → LabelsAreExact → Exactly (limit + 1) (merge_clause whole) MergeParts ClauseEnds
unfolding merge_clause
merge_exact {limit} exact paths labels =
    leading_exact (keyword_exact k.Merge)
    (sequence_exact (path_fits paths) (λ p. made_exact (tree.merge p) (ons_exact exact labels)) (λ p c front more h ends. ons_end h.value front more h.inner ends))

pub merge_out : (c : Clause) (front : List Token) → MergeParts c front → ClauseSpelled grammar.updating c front
merge_out c front h =
    let q = h.inner in let v = q.second in
    subst (λ y. ClauseSpelled grammar.updating y front) (sym v.is) (record { well = (q.first.well, v.inner.well); is = refl; fits = behind_fits h _ (sequence_fits q (path_marks q.value) _ q.first.fits v.inner.fits) })

pub merge_into : (p : PathPattern) (os : List On) (front : List Token) → ClauseSpelled grammar.updating (tree.merge p os) front → MergeParts (tree.merge p os) front
merge_into x os front h =
    behind_of h.fits (λ g p. sequence_of x (path_marks x) _ p (λ f p. fitting h.well.0 p) (λ g p. record { value = os; is = refl; inner = fitting h.well.1 p }))
