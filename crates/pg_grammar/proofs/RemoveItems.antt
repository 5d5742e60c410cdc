-- The items of REMOVE.
use Rattle.std.proofs.Common.{◌≡◌, ℕ, true, List, [], ◌∷◌, map, refl, sym, subst, inl, inr}
use Rattle.pg_meaning.specs.declared.lexemes.Symbol.TheVariants as s
use Rattle.pg_meaning.specs.Tokens.{Token}
use Rattle.pg_meaning.specs.Tree.{Name, RemoveItem}
use Rattle.pg_meaning.specs.Tree as tree
use Rattle.pg_meaning.specs.Grammar.{sign, commas, remove_marks, IsRemoveItem}
use Rattle.pg_meaning.specs.Grammar as grammar
use Rattle.pg_meaning.specs.Parse as parse
use Rattle.pg_meaning.specs.Parse.{◌>>=◌, ◌>>◌, ◌<$>◌, sees_symbol, branch, separated, remove_item}
use Rattle.pg_grammar.specs.Rules.{Exactly, LabelsSpelled, LabelsAreExact, NoColon}
use Rattle.pg_grammar.proofs.Terminals.{symbol_is}
use Rattle.pg_grammar.proofs.Combinators.{Is, Fitting, Items, Sequence, Behind, Made, Either, restated, narrowed, var_exact, name_exact, sequence_exact, behind_exact, made_exact, either_exact, items_exact, sequence_fits, sequence_of, behind_fits, behind_of, AfterItems, fitting, symbol_exact}
use Rattle.pg_grammar.proofs.FirstTokens.{symbol_first}
use Rattle.pg_grammar.proofs.SetItems.{labels_first}

abbrev OfProperty : Name → RemoveItem → List Token → Type 0
OfProperty n = Behind (sign s.Dot) (Made (tree.remove_property n) (Is grammar.name))

abbrev OfLabels : Name → RemoveItem → List Token → Type 0
OfLabels n = Made (tree.remove_labels n) LabelsSpelled

abbrev Parts : RemoveItem → List Token → Type 0
Parts = Sequence (Is grammar.var) (λ n. Either (OfProperty n) (OfLabels n))

abbrev pub RemoveSpelled : RemoveItem → List Token → Type 0
RemoveSpelled = Fitting IsRemoveItem remove_marks

out : (a : RemoveItem) (front : List Token) → Parts a front → RemoveSpelled a front
out a front h = by h.second
  where
    by : Either (OfProperty h.value) (OfLabels h.value) a h.g → RemoveSpelled a front
    by (inl p) =
        let v = p.inner in
        subst (λ y. RemoveSpelled y front) (sym v.is) (fitting tt (sequence_fits h (grammar.var h.value ∷ []) _ h.first.fits (behind_fits p _ v.inner.fits)))
    by (inr v) =
        subst (λ y. RemoveSpelled y front) (sym v.is) (fitting v.inner.some (sequence_fits h (grammar.var h.value ∷ []) _ h.first.fits v.inner.fits))

into : (a : RemoveItem) (front : List Token) → RemoveSpelled a front → Parts a front
into (tree.remove_property n m) front h =
    sequence_of n (grammar.var n ∷ []) _ h.fits (λ f p. fitting tt p) (λ g p. inl (behind_of p (λ g p. record { value = m; is = refl; inner = fitting tt p })))
into (tree.remove_labels n ls) front h =
    sequence_of n (grammar.var n ∷ []) _ h.fits (λ f p. fitting tt p) (λ g p. inr (record { value = ls; is = refl; inner = record { some = h.well; fits = p } }))

remove_item_exact : {limit : ℕ} → LabelsAreExact → Exactly limit remove_item RemoveSpelled NoColon
unfolding remove_item parse.same_symbol
remove_item_exact {limit} labels = restated (sequence_exact (var_exact limit) from (λ a b front more h ends. tt)) out into (λ more ends. ends)
  where
    of_property : (n : Name) → Exactly limit (parse.symbol s.Dot >> (tree.remove_property n <$> parse.name)) (OfProperty n) NoColon
    of_property n =
        let named = made_exact (tree.remove_property n) (name_exact limit) in
        behind_exact (symbol_exact s.Dot)
        (narrowed named (λ more ends. tt))

    from : (n : Name) → Exactly limit (branch (sees_symbol s.Dot) (parse.symbol s.Dot >> (tree.remove_property n <$> parse.name)) (tree.remove_labels n <$> parse.labels)) (Either (OfProperty n) (OfLabels n)) NoColon
    from n = either_exact (sees_symbol s.Dot) (of_property n) (made_exact (tree.remove_labels n) (labels limit))
        (λ a front more h. symbol_first s.Dot front more h) (λ a front more h ends. labels_first s.Dot refl h.value front more h.inner)

-- ---- several of them

comma_ends : (more : List Token) → sees_symbol s.Comma more ≡ true → NoColon more
unfolding parse.same_symbol
comma_ends more e = let i = symbol_is s.Comma more e in rw (i.1, i.2.spelled) refl

abbrev pub RemovesSpelled : List RemoveItem → List Token → Type 0
RemovesSpelled = Fitting (Items IsRemoveItem) (λ xs. commas (map remove_marks xs))

pub removes_exact : {limit : ℕ} → LabelsAreExact → Exactly limit (separated remove_item) RemovesSpelled (AfterItems NoColon)
removes_exact labels = items_exact (remove_item_exact labels) comma_ends
