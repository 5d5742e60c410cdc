-- The clauses that read and those that update.
use Rattle.std.proofs.Common.{◌≡◌, ◌+◌, false, List, ◌++◌, refl, sym, subst, inl, inr}
use Rattle.pg_meaning.specs.declared.lexemes.Keyword.{Keyword}
use Rattle.pg_meaning.specs.declared.lexemes.Keyword.TheVariants as k
use Rattle.pg_meaning.specs.Tokens.{Token}
use Rattle.pg_meaning.specs.Tree.{Expression, PathPattern, SetItem, RemoveItem, Clause}
use Rattle.pg_meaning.specs.Tree as tree
use Rattle.pg_meaning.specs.Grammar.{Kind, Mark, key, clause_marks, IsClause, kind_of, Fit}
use Rattle.pg_meaning.specs.Grammar as grammar
use Rattle.pg_meaning.specs.Parse as parse
use Rattle.pg_meaning.specs.Parse.{Parser, ◌>>◌, ◌<$>◌, sees_keyword}
use Rattle.pg_grammar.specs.Rules.{Exactly, Ends, ClauseEnds, ClauseSpelled, ExpressionsAreExact, LabelsAreExact, PathsAreExact, ReadingClausesAreExact, UpdatingClausesAreExact}
use Rattle.pg_grammar.proofs.ClauseEnds.{end_comma, end_follow, end_colon, end_hop}
use Rattle.pg_grammar.proofs.Combinators.{Behind, Made, Either, restated, narrowed, keyword_exact, leading_exact, made_exact, either_exact, behind_fits, behind_of, AfterItems, fitting}
use Rattle.pg_grammar.proofs.FirstTokens.{keyword_first, keyword_other, flagged_other}
use Rattle.pg_grammar.proofs.Conditions.{whole_exact}
use Rattle.pg_grammar.proofs.Matches.{PathsFit, paths_fit, MatchParts, match_exact, match_out, match_into, UnwindParts, unwind_exact, unwind_out, unwind_into}
use Rattle.pg_grammar.proofs.SetItems.{SetsSpelled, sets_exact}
use Rattle.pg_grammar.proofs.RemoveItems.{RemovesSpelled, removes_exact}
use Rattle.pg_grammar.proofs.Merges.{MergeParts, merge_exact, merge_out, merge_into}
use Rattle.pg_grammar.proofs.Deletes.{DeleteParts, delete_exact, delete_out, delete_into}

-- ---- clauses that read

abbrev ReadingParts : Clause → List Token → Type 0
ReadingParts = Either UnwindParts MatchParts

reading_out : (c : Clause) (front : List Token) → ReadingParts c front → ClauseSpelled grammar.reading c front
reading_out c front (inl h) = unwind_out c front h
reading_out c front (inr h) = match_out c front h

reading_into : (c : Clause) (front : List Token) → ClauseSpelled grammar.reading c front → ReadingParts c front
reading_into (tree.match_paths b ps w) front h = inr (match_into b ps w front h)
reading_into (tree.unwind x n) front h = inl (unwind_into x n front h)
reading_into _ front h = let bad = h.is in absurd cc

pub reading_exact : ExpressionsAreExact → PathsAreExact → ReadingClausesAreExact
unfolding parse.reading parse.same_keyword
reading_exact expressions paths n =
    let whole = whole_exact (expressions n) in
    restated
    (either_exact (sees_keyword k.Unwind) (narrowed (unwind_exact whole) (λ more ends. tt)) (match_exact whole (paths n))
    (λ c front more h. keyword_first k.Unwind front more h) (λ c front more h ends. flagged_other k.Optional k.Match k.Unwind refl refl front more h))
    reading_out reading_into (λ more ends. ends)

-- ---- clauses that update

abbrev Simple : {A : Type 0} → Keyword → (A → Clause) → (A → List Token → Type 0) → Clause → List Token → Type 0
Simple x f S = Behind (key x) (Made f S)

abbrev CreateParts : Clause → List Token → Type 0
CreateParts = Simple k.Create tree.create PathsFit

abbrev SetParts : Clause → List Token → Type 0
SetParts = Simple k.Set tree.set_items SetsSpelled

abbrev RemoveParts : Clause → List Token → Type 0
RemoveParts = Simple k.Remove tree.remove_items RemovesSpelled

abbrev FromRemove : Clause → List Token → Type 0
FromRemove = Either RemoveParts DeleteParts

abbrev FromSet : Clause → List Token → Type 0
FromSet = Either SetParts FromRemove

abbrev FromMerge : Clause → List Token → Type 0
FromMerge = Either MergeParts FromSet

abbrev UpdatingParts : Clause → List Token → Type 0
UpdatingParts = Either CreateParts FromMerge

updating_out : (c : Clause) (front : List Token) → UpdatingParts c front → ClauseSpelled grammar.updating c front
updating_out c front (inl h) = let v = h.inner in subst (λ y. ClauseSpelled grammar.updating y front) (sym v.is) (record { well = v.inner.well; is = refl; fits = behind_fits h _ v.inner.fits })
updating_out c front (inr (inl h)) = merge_out c front h
updating_out c front (inr (inr (inl h))) = let v = h.inner in subst (λ y. ClauseSpelled grammar.updating y front) (sym v.is) (record { well = v.inner.well; is = refl; fits = behind_fits h _ v.inner.fits })
updating_out c front (inr (inr (inr (inl h)))) = let v = h.inner in subst (λ y. ClauseSpelled grammar.updating y front) (sym v.is) (record { well = v.inner.well; is = refl; fits = behind_fits h _ v.inner.fits })
updating_out c front (inr (inr (inr (inr h)))) = delete_out c front h

updating_into : (c : Clause) (front : List Token) → ClauseSpelled grammar.updating c front → UpdatingParts c front
updating_into (tree.create ps) front h = inl (behind_of h.fits (λ g p. record { value = ps; is = refl; inner = fitting h.well p }))
updating_into (tree.merge p os) front h = inr (inl (merge_into p os front h))
updating_into (tree.set_items xs) front h = inr (inr (inl (behind_of h.fits (λ g p. record { value = xs; is = refl; inner = fitting h.well p }))))
updating_into (tree.remove_items xs) front h = inr (inr (inr (inl (behind_of h.fits (λ g p. record { value = xs; is = refl; inner = fitting h.well p })))))
updating_into (tree.delete b xs) front h = inr (inr (inr (inr (delete_into b xs front h))))
updating_into _ front h = let bad = h.is in absurd cc

-- none of the later ones begins so
no_remove : (c : Clause) (front more : List Token) → DeleteParts c front → sees_keyword k.Remove (front ++ more) ≡ false
unfolding parse.same_keyword
no_remove c front more h = flagged_other k.Detach k.Delete k.Remove refl refl front more h

no_set : (c : Clause) (front more : List Token) → FromRemove c front → sees_keyword k.Set (front ++ more) ≡ false
unfolding parse.same_keyword
no_set c front more (inl h) = keyword_other k.Remove k.Set refl front more h
no_set c front more (inr h) = flagged_other k.Detach k.Delete k.Set refl refl front more h

no_merge : (c : Clause) (front more : List Token) → FromSet c front → sees_keyword k.Merge (front ++ more) ≡ false
unfolding parse.same_keyword
no_merge c front more (inl h) = keyword_other k.Set k.Merge refl front more h
no_merge c front more (inr (inl h)) = keyword_other k.Remove k.Merge refl front more h
no_merge c front more (inr (inr h)) = flagged_other k.Detach k.Delete k.Merge refl refl front more h

no_create : (c : Clause) (front more : List Token) → FromMerge c front → sees_keyword k.Create (front ++ more) ≡ false
unfolding parse.same_keyword
no_create c front more (inl h) = keyword_other k.Merge k.Create refl front more h
no_create c front more (inr (inl h)) = keyword_other k.Set k.Create refl front more h
no_create c front more (inr (inr (inl h))) = keyword_other k.Remove k.Create refl front more h
no_create c front more (inr (inr (inr h))) = flagged_other k.Detach k.Delete k.Create refl refl front more h

pub updating_exact : ExpressionsAreExact → PathsAreExact → LabelsAreExact → UpdatingClausesAreExact
unfolding parse.updating
updating_exact expressions paths labels n =
    let whole = whole_exact (expressions n) in
    restated
    (either_exact (sees_keyword k.Create) (simple k.Create tree.create PathsFit (narrowed (paths_fit (paths n)) (λ more ends. (end_comma more ends, end_hop more ends))))
    (either_exact (sees_keyword k.Merge) (merge_exact whole (paths n) labels)
    (either_exact (sees_keyword k.Set) (simple k.Set tree.set_items SetsSpelled (narrowed (sets_exact whole labels) items_end))
    (either_exact (sees_keyword k.Remove) (simple k.Remove tree.remove_items RemovesSpelled (narrowed (removes_exact labels) (λ more ends. (end_comma more ends, end_colon more ends))))
    (narrowed (delete_exact whole) items_end)
    (λ c front more h. keyword_first k.Remove front more h) (λ c front more h ends. no_remove c front more h))
    (λ c front more h. keyword_first k.Set front more h) (λ c front more h ends. no_set c front more h))
    (λ c front more h. keyword_first k.Merge front more h) (λ c front more h ends. no_merge c front more h))
    (λ c front more h. keyword_first k.Create front more h) (λ c front more h ends. no_create c front more h))
    updating_out updating_into (λ more ends. ends)
  where
    simple : {A : Type 0} (x : Keyword) (f : A → Clause) (S : A → List Token → Type 0) {p : Parser A} → Exactly n p S ClauseEnds → Exactly (n + 1) (parse.keyword x >> (f <$> p)) (Simple x f S) ClauseEnds
    simple x f S exact = leading_exact (keyword_exact x) (made_exact f exact)

    items_end : (more : List Token) → ClauseEnds more → AfterItems (Ends 1) more
    items_end more ends = (end_comma more ends, end_follow more ends)
