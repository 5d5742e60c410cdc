-- Tests behind an expression: of texts, of membership, of NULL.
use Rattle.std.proofs.Common.{◌≡◌, ℕ, ◌<◌, ◌≤◌, Bool, true, false, ◌||◌, List, [], ◌∷◌, ◌++◌, refl, sym, ap, subst, ◌⊎◌, inl, inr, append_assoc, arith}
use Rattle.std.proofs.lemmas.List.{append-nil}
use Rattle.std.proofs.Math.Nat.{eq-or-lt_of_le}
use Rattle.pg_meaning.specs.declared.lexemes.Keyword.{Keyword}
use Rattle.pg_meaning.specs.declared.lexemes.Keyword.TheVariants as k
use Rattle.pg_meaning.specs.declared.operators.TextTest.{TextTest}
use Rattle.pg_meaning.specs.declared.operators.TextTest.TheVariants as test
use Rattle.pg_meaning.specs.Tokens.{Token}
use Rattle.pg_meaning.specs.Tokens as lexeme
use Rattle.pg_meaning.specs.Tree.{Expression, Tests}
use Rattle.pg_meaning.specs.Tree as tree
use Rattle.pg_meaning.specs.Grammar.{Mark, key, flag, text_test_marks, test_marks, level, marks, Fit, HasTests, IsWellFormed, AreTests}
use Rattle.pg_meaning.specs.Parse as parse
use Rattle.pg_meaning.specs.Parse.{Parser, ◌>>=◌, ◌>>◌, pure, many, is_keyword, sees_keyword, keyword, begins_test, null_test, test_by, one_test, all_tests, tested}
use Rattle.pg_grammar.specs.Rules.{Exactly, Anything, follow, Ends, Spelled, Exact}
use Rattle.pg_grammar.proofs.Chains.{chain_levels}
use Rattle.pg_grammar.proofs.Combinators.{Fitting, Free, Only, Sequence, Behind, Made, Either, fitting, restated, narrowed, behind_exact, sequence_exact, made_exact, pure_exact, either_exact, tail_exact, keyword_exact, eat_keyword_exact, no_tokens, sequence_fits, sequence_of, behind_fits, behind_of}
use Rattle.pg_grammar.proofs.FirstTokens.{shown, keyword_other}
use Rattle.pg_grammar.proofs.Fits.{fit_append, fit_split}
use Rattle.pg_grammar.proofs.Generic.{Each}
use Rattle.pg_grammar.proofs.Openings.{keyword_binds, keyword_unbound}

-- ---- one test

pub record TextTested (f : Tests → Tests) (front : List Token) : Type 0 where
  pub kind : TextTest
  pub x : Expression
  pub is : f ≡ tree.text_test kind x
  pub well : IsWellFormed x
  pub tight : 7 ≤ level x
  pub fits : Fit front (text_test_marks kind ++ marks x)

pub record NullTested (f : Tests → Tests) (front : List Token) : Type 0 where
  pub negated : Bool
  pub is : f ≡ tree.null_test negated
  pub fits : Fit front (key k.Is ∷ (flag negated (key k.Not) ++ key k.Null ∷ []))

abbrev IsTested : (Tests → Tests) → List Token → Type 0
IsTested f front = TextTested f front ⊎ NullTested f front

either : (a b : Bool) → (a || b) ≡ true → (a ≡ true) ⊎ (b ≡ true)
either true b e = inl refl
either false b e = inr e

test_follows : (ts : List Token) → begins_test ts ≡ true → follow ts ≡ 6
test_follows ts e =
    elim (either (sees_keyword k.Starts ts || sees_keyword k.Ends ts || sees_keyword k.Contains ts || sees_keyword k.In ts) (sees_keyword k.Is ts) e) [
      | inr h ↦ (keyword_binds k.Is ts h).1
      | inl e ↦ elim (either (sees_keyword k.Starts ts || sees_keyword k.Ends ts || sees_keyword k.Contains ts) (sees_keyword k.In ts) e) [
        | inr h ↦ (keyword_binds k.In ts h).1
        | inl e ↦ elim (either (sees_keyword k.Starts ts || sees_keyword k.Ends ts) (sees_keyword k.Contains ts) e) [
          | inr h ↦ (keyword_binds k.Contains ts h).1
          | inl e ↦ elim (either (sees_keyword k.Starts ts) (sees_keyword k.Ends ts) e) [
            | inl h ↦ (keyword_binds k.Starts ts h).1
            | inr h ↦ (keyword_binds k.Ends ts h).1
          ]
        ]
      ]
    ]

test_unbound : (ts : List Token) → follow ts < 6 → begins_test ts ≡ false
test_unbound ts less =
    rw (keyword_unbound k.Starts ts (λ w. less), keyword_unbound k.Ends ts (λ w. less), keyword_unbound k.Contains ts (λ w. less), keyword_unbound k.In ts (λ w. less), keyword_unbound k.Is ts (λ w. less)) refl

-- the first keyword of a test, and the other marks
abbrev text_word : TextTest → Keyword
text_word test.StartsWith = k.Starts
text_word test.EndsWith = k.Ends
text_word test.Contains = k.Contains
text_word test.In = k.In

abbrev text_rest : TextTest → List Mark
text_rest test.StartsWith = key k.With ∷ []
text_rest test.EndsWith = key k.With ∷ []
text_rest _ = []

text_marks : (kind : TextTest) → text_test_marks kind ≡ key (text_word kind) ∷ text_rest kind
text_marks test.StartsWith = refl
text_marks test.EndsWith = refl
text_marks test.Contains = refl
text_marks test.In = refl

word_begins : (kind : TextTest) (w : List ℕ) (a b : ℕ) (ts : List Token) → begins_test (record { lexeme = lexeme.keyword (text_word kind) w; start = a; finish = b } ∷ ts) ≡ true
unfolding parse.same_keyword
word_begins test.StartsWith w a b ts = refl
word_begins test.EndsWith w a b ts = refl
word_begins test.Contains w a b ts = refl
word_begins test.In w a b ts = refl

tested_first : (f : Tests → Tests) (front more : List Token) → IsTested f front → begins_test (front ++ more) ≡ true
unfolding parse.same_keyword
tested_first f front more (inl h) = by front (subst (λ (ms : List Mark). Fit front (ms ++ marks h.x)) (text_marks h.kind) h.fits)
  where
    by : (front : List Token) → Fit front (key (text_word h.kind) ∷ (text_rest h.kind ++ marks h.x)) → begins_test (front ++ more) ≡ true
    by [] fits = absurd fits
    by (t ∷ front) fits = rw fits.0.spelled.1 (word_begins h.kind fits.0.spelled.0 t.start t.finish (front ++ more))
tested_first f [] more (inr h) = absurd h.fits
tested_first f (t ∷ front) more (inr h) = rw h.fits.0.spelled.1 refl

-- ---- tests in a row

tests_made : (fs : List (Tests → Tests)) (g : List Token) → Each IsTested fs g → AreTests (all_tests fs) × Fit g (test_marks (all_tests fs))
tests_made [] g each = (tt, rw each tt)
tests_made (f ∷ fs) g each = by (tests_made fs each.1 each.4) each.3
  where
    by : AreTests (all_tests fs) × Fit each.1 (test_marks (all_tests fs)) → IsTested f each.0 → AreTests (all_tests (f ∷ fs)) × Fit g (test_marks (all_tests (f ∷ fs)))
    by more (inl h) = rw (h.is, each.2) ((h.well, h.tight, more.0), fit_append each.0 each.1 (text_test_marks h.kind ++ marks h.x) (test_marks (all_tests fs)) h.fits more.1)
    by more (inr h) =
        let fits : Fit (each.0 ++ each.1) (key k.Is ∷ ((flag h.negated (key k.Not) ++ key k.Null ∷ []) ++ test_marks (all_tests fs))) =
        fit_append each.0 each.1 (key k.Is ∷ (flag h.negated (key k.Not) ++ key k.Null ∷ [])) (test_marks (all_tests fs)) h.fits more.1 in
        rw (h.is, each.2) (more.0, rw append_assoc at fits)

tests_of : (ts : Tests) (g : List Token) → AreTests ts → Fit g (test_marks ts) → (fs : List (Tests → Tests)) × (all_tests fs ≡ ts) × Each IsTested fs g
tests_of tree.no_tests g are fits = ([], refl, no_tokens g fits)
tests_of (tree.text_test kind x ts) g are fits =
    let parts = fit_split g (text_test_marks kind ++ marks x) (test_marks ts) fits in
    let more = tests_of ts parts.1 are.2 parts.4 in
    let h : TextTested (tree.text_test kind x) parts.0 = record { kind = kind; x = x; is = refl; well = are.0; tight = are.1; fits = parts.3 } in
    (tree.text_test kind x ∷ more.0, ap (tree.text_test kind x) more.1, (parts.0, parts.1, parts.2, inl h, more.2))
tests_of (tree.null_test negated ts) g are fits =
    let split : Fit g ((key k.Is ∷ (flag negated (key k.Not) ++ key k.Null ∷ [])) ++ test_marks ts) = rw append_assoc fits in
    let parts = fit_split g (key k.Is ∷ (flag negated (key k.Not) ++ key k.Null ∷ [])) (test_marks ts) split in
    let more = tests_of ts parts.1 are parts.4 in
    let h : NullTested (tree.null_test negated) parts.0 = record { negated = negated; is = refl; fits = parts.3 } in
    (tree.null_test negated ∷ more.0, ap (tree.null_test negated) more.1, (parts.0, parts.1, parts.2, inr h, more.2))

has_tests : (f : Tests → Tests) (front : List Token) (ts : Tests) → IsTested f front → HasTests (f ts)
has_tests f front ts (inl h) = rw h.is tt
has_tests f front ts (inr h) = rw h.is tt

abbrev TestTailed : Expression → List Token → Type 0
TestTailed = Sequence (Spelled 7) (λ x. Made (tested x) (Each IsTested))

tested_made : (x : Expression) (fs : List (Tests → Tests)) (f g : List Token) → Spelled 7 x f → Each IsTested fs g → Spelled 6 (tested x fs) (f ++ g)
tested_made x [] f g one each = rw (each, append-nil f) (record { well = one.well; tight = omega (arith, one.tight); fits = one.fits })
tested_made x (p ∷ ps) f g one each =
    let more = tests_made (p ∷ ps) g each in
    record { well = (has_tests p each.0 (all_tests ps) each.3, one.well, one.tight, more.0); tight = omega arith; fits = fit_append f g (marks x) (test_marks (all_tests (p ∷ ps))) one.fits more.1 }

tests_spelled : (a : Expression) (front : List Token) → TestTailed a front → Spelled 6 a front
tests_spelled a front h = rw (h.second.is, h.whole) (tested_made h.value h.second.value h.f h.g h.first h.second.inner)

tested_of : (a : Expression) (front : List Token) → IsWellFormed a → Fit front (marks a) → level a ≡ 6 → TestTailed a front
tested_of (tree.tests x ts) front well fits is =
    let parts = fit_split front (marks x) (test_marks ts) fits in
    let fs = tests_of ts parts.1 well.3 parts.4 in
    record { value = x; f = parts.0; g = parts.1; whole = parts.2; first = record { well = well.1; tight = well.2; fits = parts.3 }; second = record { value = fs.0; is = by ts well.0 fs.0 fs.1; inner = fs.2 } }
  where
    by : (ts : Tests) → HasTests ts → (fs : List (Tests → Tests)) → all_tests fs ≡ ts → tree.tests x ts ≡ tested x fs
    by ts has [] e = absurd (subst HasTests (sym e) has)
    by ts has (f ∷ fs) e = ap (tree.tests x) (sym e)
tested_of (tree.chain x os) front well fits is = absurd (omega (arith, chain_levels os))
tested_of _ front well fits is = absurd (omega arith)

tests_tailed : (a : Expression) (front : List Token) → Spelled 6 a front → TestTailed a front
tests_tailed a front h =
    elim (eq-or-lt_of_le h.tight) [
      | inl e ↦ tested_of a front h.well h.fits (sym e)
      | inr less ↦ record { value = a; f = front; g = []; whole = sym (append-nil front); first = record { well = h.well; tight = less; fits = h.fits }; second = record { value = []; is = refl; inner = refl } }
    ]

-- ---- read

abbrev text_tested : TextTest → Expression → Tests → Tests
text_tested kind x = tree.text_test kind x

abbrev TextParts : TextTest → (Tests → Tests) → List Token → Type 0
TextParts kind = Sequence (λ (u : Unit {0}) head. Fit head (text_test_marks kind)) (λ u. Made (text_tested kind) (Spelled 7))

abbrev NullParts : (Tests → Tests) → List Token → Type 0
NullParts = Behind (key k.Is) (Sequence (Fitting Free (λ n. flag n (key k.Not))) (λ n. Behind (key k.Null) (Only (tree.null_test n))))

abbrev FromIn : (Tests → Tests) → List Token → Type 0
FromIn = Either (TextParts test.In) NullParts

abbrev FromContains : (Tests → Tests) → List Token → Type 0
FromContains = Either (TextParts test.Contains) FromIn

abbrev FromEnds : (Tests → Tests) → List Token → Type 0
FromEnds = Either (TextParts test.EndsWith) FromContains

abbrev Parts : (Tests → Tests) → List Token → Type 0
Parts = Either (TextParts test.StartsWith) FromEnds

text_out : (kind : TextTest) (f : Tests → Tests) (front : List Token) → TextParts kind f front → IsTested f front
text_out kind f front h =
    let v = h.second in
    inl (record { kind = kind; x = v.value; is = v.is; well = v.inner.well; tight = v.inner.tight; fits = sequence_fits h (text_test_marks kind) (marks v.value) h.first v.inner.fits })

parts_out : (f : Tests → Tests) (front : List Token) → Parts f front → IsTested f front
parts_out f front (inl h) = text_out test.StartsWith f front h
parts_out f front (inr (inl h)) = text_out test.EndsWith f front h
parts_out f front (inr (inr (inl h))) = text_out test.Contains f front h
parts_out f front (inr (inr (inr (inl h)))) = text_out test.In f front h
parts_out f front (inr (inr (inr (inr h)))) =
    let q = h.inner in let l = q.second in
    inr (record { negated = q.value; is = l.inner.0; fits = behind_fits h (flag q.value (key k.Not) ++ key k.Null ∷ []) (sequence_fits q (flag q.value (key k.Not)) (key k.Null ∷ []) q.first.fits (behind_fits l [] (rw l.inner.1 tt))) })

parts_into : (f : Tests → Tests) (front : List Token) → IsTested f front → Parts f front
parts_into f front (inl h) = by h.kind h.is h.fits
  where
    text_into : (kind : TextTest) → f ≡ tree.text_test kind h.x → Fit front (text_test_marks kind ++ marks h.x) → TextParts kind f front
    text_into kind is fits = sequence_of tt (text_test_marks kind) (marks h.x) fits (λ g p. p) (λ g p. record { value = h.x; is = is; inner = record { well = h.well; tight = h.tight; fits = p } })

    by : (kind : TextTest) → f ≡ tree.text_test kind h.x → Fit front (text_test_marks kind ++ marks h.x) → Parts f front
    by test.StartsWith is fits = inl (text_into test.StartsWith is fits)
    by test.EndsWith is fits = inr (inl (text_into test.EndsWith is fits))
    by test.Contains is fits = inr (inr (inl (text_into test.Contains is fits)))
    by test.In is fits = inr (inr (inr (inl (text_into test.In is fits))))
parts_into f front (inr h) =
    inr (inr (inr (inr (behind_of h.fits (λ g p. sequence_of h.negated (flag h.negated (key k.Not)) (key k.Null ∷ []) p (λ g p. fitting tt p) (λ g p. behind_of p (λ g p. (h.is, no_tokens g p))))))))

-- whether it begins with the keyword
text_shows : {b : Bool} (kind : TextTest) (x : Keyword) → parse.same_keyword (text_word kind) x ≡ b → (f : Tests → Tests) (front more : List Token) → TextParts kind f front → sees_keyword x (front ++ more) ≡ b
text_shows kind x is f front more h =
    let fits : Fit front (text_test_marks kind ++ marks h.second.value) = sequence_fits h (text_test_marks kind) (marks h.second.value) h.first h.second.inner.fits in
    shown (is_keyword x) (key (text_word kind) ∷ (text_rest kind ++ marks h.second.value)) front more (λ l h. rw h.1 is) (subst (λ (ms : List Mark). Fit front (ms ++ marks h.second.value)) (text_marks kind) fits)

no_contains : (f : Tests → Tests) (front more : List Token) → FromIn f front → sees_keyword k.Contains (front ++ more) ≡ false
unfolding parse.same_keyword
no_contains f front more (inl h) = text_shows test.In k.Contains refl f front more h
no_contains f front more (inr h) = keyword_other k.Is k.Contains refl front more h

no_ends : (f : Tests → Tests) (front more : List Token) → FromContains f front → sees_keyword k.Ends (front ++ more) ≡ false
unfolding parse.same_keyword
no_ends f front more (inl h) = text_shows test.Contains k.Ends refl f front more h
no_ends f front more (inr (inl h)) = text_shows test.In k.Ends refl f front more h
no_ends f front more (inr (inr h)) = keyword_other k.Is k.Ends refl front more h

no_starts : (f : Tests → Tests) (front more : List Token) → FromEnds f front → sees_keyword k.Starts (front ++ more) ≡ false
unfolding parse.same_keyword
no_starts f front more (inl h) = text_shows test.EndsWith k.Starts refl f front more h
no_starts f front more (inr (inl h)) = text_shows test.Contains k.Starts refl f front more h
no_starts f front more (inr (inr (inl h))) = text_shows test.In k.Starts refl f front more h
no_starts f front more (inr (inr (inr h))) = keyword_other k.Is k.Starts refl front more h

module _ (limit : ℕ) (right : Parser Expression) (exact : Exact limit 7 right) where
  two_exact : (x y : Keyword) → Exactly limit (keyword x >> keyword y) (λ u head. Fit head (key x ∷ key y ∷ [])) Anything
  two_exact x y = restated (behind_exact (keyword_exact x) (keyword_exact y limit)) (λ u front h. behind_fits h (key y ∷ []) h.inner) (λ u front h. behind_of h (λ g p. p)) (λ more h. h)

  text_exact : (kind : TextTest) {front : Parser (Unit {0})} → Exactly limit front (λ u head. Fit head (text_test_marks kind)) Anything → Exactly limit (test_by kind front right) (TextParts kind) (Ends 7)
  text_exact kind one = sequence_exact one (λ u. made_exact (text_tested kind) exact) (λ u f y more h after. tt)

  null_exact : Exactly limit null_test NullParts (Ends 7)
  unfolding parse.same_keyword
  null_exact =
      narrowed (behind_exact (keyword_exact k.Is) (sequence_exact (eat_keyword_exact k.Not) (λ n. behind_exact (keyword_exact k.Null) (pure_exact (tree.null_test n))) (λ n f y more h after. keyword_other k.Null k.Not refl y more h))) (λ more after. tt)

  test_exact : Exactly limit (one_test right) IsTested (Ends 7)
  unfolding one_test parse.same_keyword
  test_exact =
      restated
      (either_exact (sees_keyword k.Starts) (text_exact test.StartsWith (two_exact k.Starts k.With))
      (either_exact (sees_keyword k.Ends) (text_exact test.EndsWith (two_exact k.Ends k.With))
      (either_exact (sees_keyword k.Contains) (text_exact test.Contains (keyword_exact k.Contains limit))
      (either_exact (sees_keyword k.In) (text_exact test.In (keyword_exact k.In limit)) null_exact
      (text_shows test.In k.In refl) (λ f front more h after. keyword_other k.Is k.In refl front more h))
      (text_shows test.Contains k.Contains refl) (λ f front more h after. no_contains f front more h))
      (text_shows test.EndsWith k.Ends refl) (λ f front more h after. no_ends f front more h))
      (text_shows test.StartsWith k.Starts refl) (λ f front more h after. no_starts f front more h))
      parts_out parts_into (λ more h. h)

  pub tests_exact : Exact limit 6 (right >>= λ x. many begins_test (one_test right) [] >>= λ fs. pure (tested x fs))
  tests_exact =
      restated (tail_exact begins_test tested refl exact test_exact tested_first (λ more after. (test_unbound more after, omega arith)) (λ more goes. let f = test_follows more goes in omega arith)) tests_spelled tests_tailed (λ more h. h)
