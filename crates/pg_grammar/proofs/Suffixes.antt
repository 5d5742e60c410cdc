-- What stands behind an atom: properties and indexes, then labels.
use Rattle.std.proofs.Common.{◌≡◌, ℕ, suc, Bool, true, false, ◌||◌, List, [], ◌∷◌, ◌++◌, refl, sym, ap, subst, ◌∙◌, ◌⊎◌, inl, inr, append_assoc, arith}
use Rattle.std.proofs.lemmas.List.{append-nil}
use Rattle.std.proofs.Math.Nat.{eq-or-lt_of_le}
use Rattle.pg_meaning.specs.declared.lexemes.Symbol.TheVariants as s
use Rattle.pg_meaning.specs.Tokens.{Token}
use Rattle.pg_meaning.specs.Tree.{Name, Expression, Suffixes}
use Rattle.pg_meaning.specs.Tree as tree
use Rattle.pg_meaning.specs.Grammar.{sign, label_marks, suffix_marks, level, marks, Accepts, Fit, HasSuffixes, IsWellFormed, AreSuffixes}
use Rattle.pg_meaning.specs.Grammar as grammar
use Rattle.pg_meaning.specs.Parse as parse
use Rattle.pg_meaning.specs.Parse.{Parser, Test, branch, ◌>>=◌, ◌>>◌, pure, sees_symbol, symbol, name, labels, labels_if_any, begins_suffix, suffix, all_suffixes, suffixed, atom, post}
use Rattle.pg_grammar.specs.Rules.{Exactly, follow, Ends, Spelled, Exact}
use Rattle.pg_grammar.proofs.Fits.{fit_append, fit_split}
use Rattle.pg_grammar.proofs.Generic.{Each, followed}
use Rattle.pg_grammar.proofs.Labels.{labels_or_none}
use Rattle.pg_grammar.proofs.Combinators.{Fitting, Free, Is, Only, Sequence, Behind, Made, Either, After, fitting, fewer, restated, narrowed, leading_exact, behind_exact, sequence_exact, made_exact, pure_exact, either_exact, pieces_exact, symbol_exact, name_exact, no_tokens, sequence_fits, sequence_of, behind_fits, behind_of}
use Rattle.pg_grammar.proofs.FirstTokens.{symbol_first, symbol_other}
use Rattle.pg_grammar.proofs.Openings.{symbol_binds, symbol_unbound}
use Rattle.pg_grammar.proofs.Chains.{chain_levels, any_spelled}
use Rattle.pg_grammar.proofs.Terminals.{symbol_seen}

-- ---- one suffix

pub record PropertySuffix (f : Suffixes → Suffixes) (front : List Token) : Type 0 where
  pub n : Name
  pub is : f ≡ tree.property n
  pub fits : Fit front (sign s.Dot ∷ grammar.name n ∷ [])

pub record IndexSuffix (f : Suffixes → Suffixes) (front : List Token) : Type 0 where
  pub x : Expression
  pub is : f ≡ tree.index x
  pub well : IsWellFormed x
  pub fits : Fit front (sign s.OpenBracket ∷ (marks x ++ sign s.CloseBracket ∷ []))

abbrev IsSuffix : (Suffixes → Suffixes) → List Token → Type 0
IsSuffix f front = PropertySuffix f front ⊎ IndexSuffix f front

property_first : (f : Suffixes → Suffixes) (front more : List Token) → PropertySuffix f front → begins_suffix (front ++ more) ≡ true
property_first f [] more h = absurd h.fits
property_first f (t ∷ front) more h = rw (symbol_seen s.Dot t (front ++ more) h.fits.0) refl

index_first : (f : Suffixes → Suffixes) (front more : List Token) → IndexSuffix f front → begins_suffix (front ++ more) ≡ true
unfolding parse.same_symbol
index_first f [] more h = absurd h.fits
index_first f (t ∷ front) more h = rw h.fits.0.spelled refl

suffix_first : (f : Suffixes → Suffixes) (front more : List Token) → IsSuffix f front → begins_suffix (front ++ more) ≡ true
suffix_first f front more (inl h) = property_first f front more h
suffix_first f front more (inr h) = index_first f front more h

suffix_follows : (ts : List Token) → begins_suffix ts ≡ true → follow ts ≡ 10
suffix_follows ts e = by (sees_symbol s.Dot ts) refl e
  where
    by : (b : Bool) → sees_symbol s.Dot ts ≡ b → (b || sees_symbol s.OpenBracket ts) ≡ true → follow ts ≡ 10
    by true is e = symbol_binds s.Dot ts is
    by false is e = symbol_binds s.OpenBracket ts e

abbrev indexed : Expression → Suffixes → Suffixes
indexed x = tree.index x

-- ---- suffixes in a row

suffixes_made : (fs : List (Suffixes → Suffixes)) (g : List Token) → Each IsSuffix fs g → AreSuffixes (all_suffixes fs) × Fit g (suffix_marks (all_suffixes fs))
suffixes_made [] g each = (tt, rw each tt)
suffixes_made (f ∷ fs) g each = by (suffixes_made fs each.1 each.4) each.3
  where
    by : AreSuffixes (all_suffixes fs) × Fit each.1 (suffix_marks (all_suffixes fs)) → IsSuffix f each.0 → AreSuffixes (all_suffixes (f ∷ fs)) × Fit g (suffix_marks (all_suffixes (f ∷ fs)))
    by more (inl h) = rw (h.is, each.2) (more.0, fit_append each.0 each.1 (sign s.Dot ∷ grammar.name h.n ∷ []) (suffix_marks (all_suffixes fs)) h.fits more.1)
    by more (inr h) =
        let fits : Fit (each.0 ++ each.1) (sign s.OpenBracket ∷ ((marks h.x ++ sign s.CloseBracket ∷ []) ++ suffix_marks (all_suffixes fs))) =
        fit_append each.0 each.1 (sign s.OpenBracket ∷ (marks h.x ++ sign s.CloseBracket ∷ [])) (suffix_marks (all_suffixes fs)) h.fits more.1 in
        rw (h.is, each.2) ((h.well, more.0), rw append_assoc at fits)

suffixes_of : (xs : Suffixes) (g : List Token) → AreSuffixes xs → Fit g (suffix_marks xs) → (fs : List (Suffixes → Suffixes)) × (all_suffixes fs ≡ xs) × Each IsSuffix fs g
suffixes_of tree.no_suffixes [] are fits = ([], refl, refl)
suffixes_of tree.no_suffixes (t ∷ g) are fits = absurd fits
suffixes_of (tree.property n xs) g are fits =
    let parts = fit_split g (sign s.Dot ∷ grammar.name n ∷ []) (suffix_marks xs) fits in
    let more = suffixes_of xs parts.1 are parts.4 in
    let h : PropertySuffix (tree.property n) parts.0 = record { n = n; is = refl; fits = parts.3 } in
    (tree.property n ∷ more.0, ap (tree.property n) more.1, (parts.0, parts.1, parts.2, inl h, more.2))
suffixes_of (tree.index x xs) g are fits =
    let split : Fit g ((sign s.OpenBracket ∷ (marks x ++ sign s.CloseBracket ∷ [])) ++ suffix_marks xs) = rw append_assoc fits in
    let parts = fit_split g (sign s.OpenBracket ∷ (marks x ++ sign s.CloseBracket ∷ [])) (suffix_marks xs) split in
    let more = suffixes_of xs parts.1 are.1 parts.4 in
    let h : IndexSuffix (tree.index x) parts.0 = record { x = x; is = refl; well = are.0; fits = parts.3 } in
    (tree.index x ∷ more.0, ap (tree.index x) more.1, (parts.0, parts.1, parts.2, inr h, more.2))

has_suffixes : (f : Suffixes → Suffixes) (front : List Token) (xs : Suffixes) (ls : List Name) → IsSuffix f front → HasSuffixes (f xs) ls
has_suffixes f front xs ls (inl h) = rw h.is tt
has_suffixes f front xs ls (inr h) = rw h.is tt

-- ---- with labels

abbrev Posted : Expression → List Token → Type 0
Posted = Sequence (Spelled 11) (λ x. Sequence (Each IsSuffix) (λ fs. Made (suffixed x fs) (Fitting Free label_marks)))

posted_fits : (x : Expression) (xs : Suffixes) (ls : List Name) (f g h : List Token) → Fit f (marks x) → Fit g (suffix_marks xs) → Fit h (label_marks ls) → Fit (f ++ (g ++ h)) (marks (tree.suffixes x xs ls))
posted_fits x xs ls f g h p q r =
    let fits : Fit (f ++ (g ++ h)) (marks x ++ (suffix_marks xs ++ label_marks ls)) = fit_append f (g ++ h) (marks x) (suffix_marks xs ++ label_marks ls) p (fit_append g h (suffix_marks xs) (label_marks ls) q r) in
    rw append_assoc fits

suffixed_made : (x : Expression) (fs : List (Suffixes → Suffixes)) (ls : List Name) (f g h : List Token) → Spelled 11 x f → Each IsSuffix fs g → Fit h (label_marks ls) → Spelled 10 (suffixed x fs ls) (f ++ (g ++ h))
suffixed_made x [] [] f g [] one each labels = rw (each, append-nil f) (record { well = one.well; tight = omega (arith, one.tight); fits = one.fits })
suffixed_made x [] [] f g (t ∷ h) one each labels = absurd labels
suffixed_made x [] (l ∷ ls) f g h one each labels = record { well = (tt, one.well, one.tight, tt); tight = omega arith; fits = posted_fits x tree.no_suffixes (l ∷ ls) f g h one.fits (rw each tt) labels }
suffixed_made x (p ∷ ps) ls f g h one each labels =
    let more = suffixes_made (p ∷ ps) g each in
    record { well = (has_suffixes p each.0 (all_suffixes ps) ls each.3, one.well, one.tight, more.0); tight = omega arith; fits = posted_fits x (all_suffixes (p ∷ ps)) ls f g h one.fits more.1 labels }

posted_spelled : (a : Expression) (front : List Token) → Posted a front → Spelled 10 a front
posted_spelled a front p = let q = p.second in let v = q.second in rw (v.is, p.whole, q.whole) (suffixed_made p.value q.value v.value p.f q.f q.g p.first q.first v.inner.fits)

suffixed_of : (a : Expression) (front : List Token) → IsWellFormed a → Fit front (marks a) → level a ≡ 10 → Posted a front
suffixed_of (tree.suffixes x xs ls) front well fits is =
    let parts = fit_split front (marks x) (suffix_marks xs ++ label_marks ls) (rw append_assoc at fits) in
    let halves = fit_split parts.1 (suffix_marks xs) (label_marks ls) parts.4 in
    let fs = suffixes_of xs halves.0 well.3 halves.3 in
    record {
      value = x;
      f = parts.0;
      g = parts.1;
      whole = parts.2;
      first = record { well = well.1; tight = well.2; fits = parts.3 };
      second = record { value = fs.0; f = halves.0; g = halves.1; whole = halves.2; first = fs.2; second = record { value = ls; is = by xs ls well.0 fs.0 fs.1; inner = fitting tt halves.4 } };
    }
  where
    by : (xs : Suffixes) (ls : List Name) → HasSuffixes xs ls → (fs : List (Suffixes → Suffixes)) → all_suffixes fs ≡ xs → tree.suffixes x xs ls ≡ suffixed x fs ls
    by xs [] has [] e = absurd (subst (λ (y : Suffixes). HasSuffixes y []) (sym e) has)
    by xs (l ∷ ls) has [] e = ap (λ (y : Suffixes). tree.suffixes x y (l ∷ ls)) (sym e)
    by xs ls has (f ∷ fs) e = ap (λ (y : Suffixes). tree.suffixes x y ls) (sym e)
suffixed_of (tree.chain x os) front well fits is = absurd (omega (arith, chain_levels os))
suffixed_of _ front well fits is = absurd (omega arith)

posted_of : (a : Expression) (front : List Token) → Spelled 10 a front → Posted a front
posted_of a front h =
    elim (eq-or-lt_of_le h.tight) [
      | inl e ↦ suffixed_of a front h.well h.fits (sym e)
      | inr less ↦ record {
        value = a;
        f = front;
        g = [];
        whole = sym (append-nil front);
        first = record { well = h.well; tight = less; fits = h.fits };
        second = record { value = []; f = []; g = []; whole = refl; first = refl; second = record { value = []; is = refl; inner = fitting tt tt } };
      }
    ]

-- ---- read

-- what may stand behind the suffixes
abbrev AfterSuffixes : List Token → Type 0
AfterSuffixes = After begins_suffix (Ends 11)

labels_after : (ls : List Name) (h more : List Token) → Fit h (label_marks ls) → Ends 10 more → AfterSuffixes (h ++ more)
unfolding parse.same_symbol
labels_after [] [] more fits ends = (rw (symbol_unbound s.Dot more ends, symbol_unbound s.OpenBracket more ends) refl, omega arith)
labels_after [] (t ∷ h) more fits ends = absurd fits
labels_after (l ∷ ls) [] more fits ends = absurd fits
labels_after (l ∷ ls) (t ∷ h) more fits ends = rw fits.0.spelled (refl, omega arith)

-- ---- one suffix, read

abbrev property_of : Name → Suffixes → Suffixes
property_of n = tree.property n

abbrev PropertyParts : (Suffixes → Suffixes) → List Token → Type 0
PropertyParts = Behind (sign s.Dot) (Made property_of (Is grammar.name))

abbrev IndexParts : (Suffixes → Suffixes) → List Token → Type 0
IndexParts = Behind (sign s.OpenBracket) (Sequence (Spelled 1) (λ x. Behind (sign s.CloseBracket) (Only (indexed x))))

suffix_out : (a : Suffixes → Suffixes) (front : List Token) → Either PropertyParts IndexParts a front → IsSuffix a front
suffix_out a front (inl h) = let v = h.inner in inl (record { n = v.value; is = v.is; fits = behind_fits h (grammar.name v.value ∷ []) v.inner.fits })
suffix_out a front (inr h) =
    let q = h.inner in let l = q.second in
    inr (record { x = q.value; is = l.inner.0; well = q.first.well; fits = behind_fits h (marks q.value ++ sign s.CloseBracket ∷ []) (sequence_fits q (marks q.value) (sign s.CloseBracket ∷ []) q.first.fits (behind_fits l [] (rw l.inner.1 tt))) })

suffix_into : (a : Suffixes → Suffixes) (front : List Token) → IsSuffix a front → Either PropertyParts IndexParts a front
suffix_into a front (inl h) = inl (behind_of h.fits (λ g p. record { value = h.n; is = h.is; inner = fitting tt p }))
suffix_into a front (inr h) = inr (behind_of h.fits (λ g p. sequence_of h.x (marks h.x) (sign s.CloseBracket ∷ []) p (λ f q. any_spelled h.x f h.well q) (λ g q. behind_of q (λ g q. (h.is, no_tokens g q)))))

module _ (limit : ℕ) (whole : Parser Expression) (exact : Exact limit 1 whole) (atoms : Exact (suc limit) 11 (atom whole)) where
  suffix_exact : Exactly (suc limit) (suffix whole) IsSuffix (Ends 11)
  unfolding suffix parse.same_symbol
  suffix_exact =
      restated
      (either_exact (sees_symbol s.Dot) (narrowed (behind_exact (symbol_exact s.Dot) (made_exact property_of (name_exact (suc limit)))) (λ more h. tt))
      (narrowed (fewer (omega arith) (leading_exact (symbol_exact s.OpenBracket) (sequence_exact exact (λ x. behind_exact (symbol_exact s.CloseBracket) (pure_exact (indexed x))) (λ x a y more h ends. rw (h.whole, h.accepts.spelled) (omega arith))))) (λ more h. tt))
      (λ a front more h. symbol_first s.Dot front more h) (λ a front more h ends. symbol_other s.OpenBracket s.Dot refl front more h))
      suffix_out suffix_into (λ more h. h)

  suffix_goes : (more : List Token) → begins_suffix more ≡ true → Ends 11 more
  suffix_goes more goes = let f = suffix_follows more goes in omega arith

  pub post_exact : Exact (suc limit) 10 (post whole)
  unfolding post
  post_exact =
      restated
      (sequence_exact atoms
      (λ x. sequence_exact (pieces_exact begins_suffix refl suffix_exact suffix_first (λ more h. h) suffix_goes) (λ fs. made_exact (suffixed x fs) (narrowed (labels_or_none (suc limit)) (λ more ends. symbol_unbound s.Colon more ends))) (λ fs a y more h ends. labels_after h.value y more h.inner.fits ends))
      follows)
      posted_spelled posted_of (λ more h. h)
    where
      follows : (x a : Expression) (y more : List Token) → Sequence (Each IsSuffix) (λ fs. Made (suffixed x fs) (Fitting Free label_marks)) a y → Ends 10 more → Ends 11 (y ++ more)
      follows x a y more h ends =
          let there : y ++ more ≡ h.f ++ (h.g ++ more) = ap (λ (r : List Token). r ++ more) h.whole ∙ append_assoc h.f h.g more in
          rw there (followed {F = AfterSuffixes} suffix_first (λ more after. after.1) suffix_goes h.value h.f (h.g ++ more) h.first (labels_after h.second.value h.g more h.second.inner.fits ends))
