-- Labels.
use Rattle.std.proofs.Common.{◌≡◌, ℕ, true, List, [], ◌∷◌, ◌++◌, map, refl, sym, ap, subst}
use Rattle.std.specs.List.{AllByRecursion}
use Rattle.pg_meaning.specs.declared.lexemes.Symbol.TheVariants as s
use Rattle.pg_meaning.specs.Tokens.{Token}
use Rattle.pg_meaning.specs.Tree.{Name}
use Rattle.pg_meaning.specs.Grammar.{Mark, sign, name, label_marks, concatenated, IsNonEmpty}
use Rattle.pg_meaning.specs.Parse.{sees_symbol, label, labels, labels_if_any}
use Rattle.pg_grammar.specs.Rules.{Exactly, Anything, LabelsSpelled, LabelsAreExact, NoColon}
use Rattle.pg_grammar.proofs.Combinators.{narrowed, or_none_exact, Fitting, Free, Sequence, Made, fitting, restated, sequence_exact, sequence_fits, sequence_of, behind, row_exact, symbol_exact, name_exact, all_free, symbol_begins}

abbrev label_mark : Name → List Mark
label_mark n = sign s.Colon ∷ name n ∷ []

label_exact : (limit : ℕ) → Exactly limit label (Fitting Free label_mark) Anything
label_exact limit = behind (symbol_exact s.Colon) (name_exact limit)

marks_of : (ns : List Name) → concatenated (map label_mark ns) ≡ label_marks ns
marks_of [] = refl
marks_of (n ∷ ns) = ap (λ (ms : List Mark). sign s.Colon ∷ name n ∷ ms) (marks_of ns)

abbrev Parts : List Name → List Token → Type 0
Parts = Sequence (Fitting Free label_mark) (λ n. Made (λ ns. (n ∷ []) ++ ns) (Fitting (AllByRecursion Free) (λ ns. concatenated (map label_mark ns))))

pub labels_exact : LabelsAreExact
unfolding labels
labels_exact limit =
    restated
    (sequence_exact (label_exact limit) (λ n. row_exact (sees_symbol s.Colon) (n ∷ []) refl (label_exact limit) (λ m front more h. symbol_begins s.Colon (name m ∷ []) front more h.fits) (λ more h. (h, tt)) (λ more h. tt)) (λ n ns y more h ends. tt))
    out into (λ more h. h)
  where
    out : (ns : List Name) (front : List Token) → Parts ns front → LabelsSpelled ns front
    out ns front h =
        let v = h.second in
        subst (λ (l : List Name). LabelsSpelled l front) (sym v.is) (record { some = tt; fits = sequence_fits h (label_mark h.value) (label_marks v.value) h.first.fits (rw (← marks_of v.value) v.inner.fits) })

    into : (ns : List Name) (front : List Token) → LabelsSpelled ns front → Parts ns front
    into [] front h = absurd h.some
    into (n ∷ ns) front h = sequence_of n (label_mark n) (label_marks ns) h.fits (λ f p. fitting tt p) (λ g p. record { value = ns; is = refl; inner = fitting (all_free ns) (rw (marks_of ns) p) })

pub labels_or_none : (limit : ℕ) → Exactly limit labels_if_any (Fitting Free label_marks) NoColon
labels_or_none limit =
    narrowed
    (or_none_exact (sees_symbol s.Colon) refl tt (λ ls h. tt) (λ l ls h. tt) (restated (labels_exact limit) (λ ls front h. fitting h.some h.fits) (λ ls front h. record { some = h.well; fits = h.fits }) (λ more h. h)) seen)
    (λ more h. (h, h))
  where
    seen : (ls : List Name) (front more : List Token) → Fitting IsNonEmpty label_marks ls front → sees_symbol s.Colon (front ++ more) ≡ true
    seen [] front more h = absurd h.well
    seen (l ∷ ls) front more h = symbol_begins s.Colon _ front more h.fits
