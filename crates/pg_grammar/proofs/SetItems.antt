-- The items of SET.
use Rattle.std.proofs.Common.{◌≡◌, ℕ, false, List, [], ◌∷◌, ◌++◌, map, refl, sym, subst, inl, inr, arith}
use Rattle.pg_meaning.specs.declared.lexemes.Symbol.{Symbol}
use Rattle.pg_meaning.specs.declared.lexemes.Symbol.TheVariants as s
use Rattle.pg_meaning.specs.Tokens.{Token}
use Rattle.pg_meaning.specs.Tree.{Name, Expression, SetItem}
use Rattle.pg_meaning.specs.Tree as tree
use Rattle.pg_meaning.specs.Grammar.{Mark, sign, marks, label_marks, set_marks, commas, Fit, IsNonEmpty, IsSetItem, AreSetItems}
use Rattle.pg_meaning.specs.Grammar as grammar
use Rattle.pg_meaning.specs.Parse as parse
use Rattle.pg_meaning.specs.Parse.{Parser, ◌>>=◌, ◌>>◌, ◌<$>◌, same_symbol, is_symbol, sees_symbol, separated, set_item}
use Rattle.pg_grammar.specs.Rules.{Exactly, Ends, LabelsSpelled, LabelsAreExact, NoColon}
use Rattle.pg_grammar.proofs.Openings.{symbol_unbound}
use Rattle.pg_grammar.proofs.Combinators.{Is, Fitting, Sequence, Behind, Made, Either, restated, narrowed, var_exact, name_exact, sequence_exact, behind_exact, made_exact, either_exact, items_exact, sequence_fits, sequence_of, behind_fits, behind_of, AfterItems, fitting, symbol_exact}
use Rattle.pg_grammar.proofs.FirstTokens.{shown, symbol_first, symbol_other}
use Rattle.pg_grammar.proofs.Conditions.{Whole, comma_ends}

-- where no expression goes on, there is no colon
pub no_colon : (more : List Token) → Ends 1 more → NoColon more
no_colon more ends = symbol_unbound s.Colon more (omega (arith, ends))

-- labels begin with a colon
pub labels_first : (x : Symbol) → same_symbol s.Colon x ≡ false → (ns : List Name) (front more : List Token) → LabelsSpelled ns front → sees_symbol x (front ++ more) ≡ false
labels_first x differ [] front more h = absurd h.some
labels_first x differ (n ∷ ns) front more h = shown (is_symbol x) (label_marks (n ∷ ns)) front more (λ l h. rw h differ) h.fits

abbrev ToProperty : Name → SetItem → List Token → Type 0
ToProperty n = Behind (sign s.Dot) (Sequence (Is grammar.name) (λ m. Behind (sign s.Equal) (Made (tree.set_property n m) Whole)))

abbrev ToAll : Name → SetItem → List Token → Type 0
ToAll n = Behind (sign s.Equal) (Made (tree.set_all n) Whole)

abbrev ToMore : Name → SetItem → List Token → Type 0
ToMore n = Behind (sign s.PlusEqual) (Made (tree.set_more n) Whole)

abbrev ToLabels : Name → SetItem → List Token → Type 0
ToLabels n = Made (tree.set_labels n) LabelsSpelled

abbrev WithoutSum : Name → SetItem → List Token → Type 0
WithoutSum n = Either (ToMore n) (ToLabels n)

abbrev WithoutDot : Name → SetItem → List Token → Type 0
WithoutDot n = Either (ToAll n) (WithoutSum n)

abbrev Parts : SetItem → List Token → Type 0
Parts = Sequence (Is grammar.var) (λ n. Either (ToProperty n) (WithoutDot n))

abbrev pub SetSpelled : SetItem → List Token → Type 0
SetSpelled = Fitting IsSetItem set_marks

out : (a : SetItem) (front : List Token) → Parts a front → SetSpelled a front
out a front h = by h.second
  where
    by : Either (ToProperty h.value) (WithoutDot h.value) a h.g → SetSpelled a front
    by (inl p) =
        let q = p.inner in let r = q.second in let v = r.inner in
        subst (λ y. SetSpelled y front) (sym v.is) (fitting v.inner.well (sequence_fits h (grammar.var h.value ∷ []) _ h.first.fits (behind_fits p _ (sequence_fits q (grammar.name q.value ∷ []) _ q.first.fits (behind_fits r _ v.inner.fits)))))
    by (inr (inl p)) =
        let v = p.inner in
        subst (λ y. SetSpelled y front) (sym v.is) (fitting v.inner.well (sequence_fits h (grammar.var h.value ∷ []) _ h.first.fits (behind_fits p _ v.inner.fits)))
    by (inr (inr (inl p))) =
        let v = p.inner in
        subst (λ y. SetSpelled y front) (sym v.is) (fitting v.inner.well (sequence_fits h (grammar.var h.value ∷ []) _ h.first.fits (behind_fits p _ v.inner.fits)))
    by (inr (inr (inr v))) =
        subst (λ y. SetSpelled y front) (sym v.is) (fitting v.inner.some (sequence_fits h (grammar.var h.value ∷ []) _ h.first.fits v.inner.fits))

into : (a : SetItem) (front : List Token) → SetSpelled a front → Parts a front
into (tree.set_property n m x) front h =
    sequence_of n (grammar.var n ∷ []) _ h.fits (λ f p. fitting tt p) (λ g p. inl (behind_of p (λ g p.
    sequence_of m (grammar.name m ∷ []) _ p (λ f p. fitting tt p) (λ g p. behind_of p (λ g p. record { value = x; is = refl; inner = fitting h.well p })))))
into (tree.set_all n x) front h =
    sequence_of n (grammar.var n ∷ []) _ h.fits (λ f p. fitting tt p) (λ g p. inr (inl (behind_of p (λ g p. record { value = x; is = refl; inner = fitting h.well p }))))
into (tree.set_more n x) front h =
    sequence_of n (grammar.var n ∷ []) _ h.fits (λ f p. fitting tt p) (λ g p. inr (inr (inl (behind_of p (λ g p. record { value = x; is = refl; inner = fitting h.well p })))))
into (tree.set_labels n ls) front h =
    sequence_of n (grammar.var n ∷ []) _ h.fits (λ f p. fitting tt p) (λ g p. inr (inr (inr (record { value = ls; is = refl; inner = record { some = h.well; fits = p } }))))

pub set_item_exact : {limit : ℕ} {whole : Parser Expression} → Exactly limit whole Whole (Ends 1) → LabelsAreExact → Exactly limit (set_item whole) SetSpelled (Ends 1)
unfolding set_item parse.same_symbol
set_item_exact {limit} {whole} exact labels = restated (sequence_exact (var_exact limit) from (λ a b front more h ends. tt)) out into (λ more ends. ends)
  where
    by_symbol : (x : Symbol) (f : Expression → SetItem) → Exactly limit (parse.symbol x >> (f <$> whole)) (Behind (sign x) (Made f Whole)) (Ends 1)
    by_symbol x f = behind_exact (symbol_exact x) (made_exact f exact)

    to_property : (n : Name) → Exactly limit (parse.symbol s.Dot >> (parse.name >>= λ m. parse.symbol s.Equal >> (tree.set_property n m <$> whole))) (ToProperty n) (Ends 1)
    to_property n = behind_exact (symbol_exact s.Dot) (sequence_exact (name_exact limit) (λ m. by_symbol s.Equal (tree.set_property n m)) (λ a b front more h ends. tt))

    to_labels : (n : Name) → Exactly limit (tree.set_labels n <$> parse.labels) (ToLabels n) (Ends 1)
    to_labels n = made_exact (tree.set_labels n) (narrowed (labels limit) no_colon)

    no_sum : (n : Name) (a : SetItem) (front more : List Token) → ToLabels n a front → Ends 1 more → sees_symbol s.PlusEqual (front ++ more) ≡ false
    no_sum n a front more h ends = labels_first s.PlusEqual refl h.value front more h.inner

    no_equal : (n : Name) (a : SetItem) (front more : List Token) → WithoutSum n a front → Ends 1 more → sees_symbol s.Equal (front ++ more) ≡ false
    no_equal n a front more (inl h) ends = symbol_other s.PlusEqual s.Equal refl front more h
    no_equal n a front more (inr h) ends = labels_first s.Equal refl h.value front more h.inner

    no_dot : (n : Name) (a : SetItem) (front more : List Token) → WithoutDot n a front → Ends 1 more → sees_symbol s.Dot (front ++ more) ≡ false
    no_dot n a front more (inl h) ends = symbol_other s.Equal s.Dot refl front more h
    no_dot n a front more (inr (inl h)) ends = symbol_other s.PlusEqual s.Dot refl front more h
    no_dot n a front more (inr (inr h)) ends = labels_first s.Dot refl h.value front more h.inner

    from : (n : Name) → Exactly limit (parse.branch (sees_symbol s.Dot) (parse.symbol s.Dot >> (parse.name >>= λ m. parse.symbol s.Equal >> (tree.set_property n m <$> whole)))
        (parse.branch (sees_symbol s.Equal) (parse.symbol s.Equal >> (tree.set_all n <$> whole)) (parse.branch (sees_symbol s.PlusEqual) (parse.symbol s.PlusEqual >> (tree.set_more n <$> whole)) (tree.set_labels n <$> parse.labels)))) (Either (ToProperty n) (WithoutDot n)) (Ends 1)
    from n =
        either_exact (sees_symbol s.Dot) (to_property n)
        (either_exact (sees_symbol s.Equal) (by_symbol s.Equal (tree.set_all n))
        (either_exact (sees_symbol s.PlusEqual) (by_symbol s.PlusEqual (tree.set_more n)) (to_labels n) (λ a front more h. symbol_first s.PlusEqual front more h) (no_sum n))
        (λ a front more h. symbol_first s.Equal front more h) (no_equal n))
        (λ a front more h. symbol_first s.Dot front more h) (no_dot n)

-- ---- several of them

abbrev pub SetsSpelled : List SetItem → List Token → Type 0
SetsSpelled = Fitting AreSetItems (λ xs. commas (map set_marks xs))

pub sets_exact : {limit : ℕ} {whole : Parser Expression} → Exactly limit whole Whole (Ends 1) → LabelsAreExact → Exactly limit (separated (set_item whole)) SetsSpelled (AfterItems (Ends 1))
sets_exact exact labels = items_exact (set_item_exact exact labels) comma_ends
