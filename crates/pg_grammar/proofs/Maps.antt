-- Maps.
use Rattle.std.proofs.Common.{◌≡◌, ℕ, Bool, true, false, List, [], ◌∷◌, ◌++◌, map, refl, sym, ap, subst, ◌∙◌, inl, inr, arith}
use Rattle.std.proofs.lemmas.List.{append-nil}
use Rattle.std.specs.List.{AllByRecursion}
use Rattle.pg_meaning.specs.declared.lexemes.Symbol.TheVariants as s
use Rattle.pg_meaning.specs.Tokens.{Lexeme, Token}
use Rattle.pg_meaning.specs.Tree.{Name, Expression, Pairs}
use Rattle.pg_meaning.specs.Tree as tree
use Rattle.pg_meaning.specs.Grammar.{any_name, IsSpelled, Mark, sign, name, commas, marks, pair_marks, Fit, IsWellFormed, ArePairs}
use Rattle.pg_meaning.specs.Parse as parse
use Rattle.pg_meaning.specs.Parse.{Parser, ◌>>=◌, ◌>>◌, pure, is_symbol, sees_symbol, symbol, eat_symbol, map_pair, map_pairs, pairs_of, separated}
use Rattle.pg_grammar.specs.Rules.{Exactly, Exact, Ends, PairsSpelled, PairsAreExact}
use Rattle.pg_grammar.proofs.Combinators.{Fitting, Free, Behind, Closing, fitting, restated, leading_exact, closing_exact, step, behind, made, ending, symbol_exact, name_exact, behind_fits, behind_of}
use Rattle.pg_grammar.proofs.Conditions.{whole_exact, comma_ends}
use Rattle.pg_grammar.proofs.FirstTokens.{shown}

-- ---- lists of pairs

abbrev Pair : Type 0
Pair = Name × Expression

abbrev from_value : Pair → List Mark
from_value p = marks p.1 ++ []

abbrev pair_mark : Pair → List Mark
pair_mark p = name p.0 ∷ sign s.Colon ∷ from_value p

abbrev IsPair : Pair → Type 0
IsPair p = Free p.0 × (IsWellFormed p.1 × Free p)

abbrev list_of : Pairs → List Pair
list_of tree.no_pairs = []
list_of (tree.pair n x ps) = (n, x) ∷ list_of ps

pairs_again : (ps : Pairs) → pairs_of (list_of ps) ≡ ps
pairs_again tree.no_pairs = refl
pairs_again (tree.pair n x ps) = ap (tree.pair n x) (pairs_again ps)

list_again : (ps : List Pair) → list_of (pairs_of ps) ≡ ps
list_again [] = refl
list_again (p ∷ ps) = ap (λ (qs : List Pair). p ∷ qs) (list_again ps)

marks_of : (ps : Pairs) → map pair_mark (list_of ps) ≡ pair_marks ps
marks_of tree.no_pairs = refl
marks_of (tree.pair n x ps) = rw (marks_of ps, append-nil) refl

well_of : (ps : Pairs) → AllByRecursion IsPair (list_of ps) → ArePairs ps
well_of tree.no_pairs all = tt
well_of (tree.pair n x ps) all = (all.0.1.0, well_of ps all.1)

all_of : (ps : Pairs) → ArePairs ps → AllByRecursion IsPair (list_of ps)
all_of tree.no_pairs well = tt
all_of (tree.pair n x ps) well = ((tt, (well.0, tt)), all_of ps well.1)

-- ---- what follows a pair

-- a name is no closing brace
name_opens : (q : Bool) (w : List ℕ) (l : Lexeme) → IsSpelled (any_name q w) l → is_symbol s.CloseBrace l ≡ false
name_opens true w l h = rw h refl
name_opens false w l (inl h) = rw h refl
name_opens false w l (inr h) = rw h.1 refl

-- ---- a map

abbrev made_pair : Name → Expression → Pair
made_pair n x = (n, x)

module _ (limit : ℕ) (whole : Parser Expression) (exact : Exact limit 1 whole) where
  pair_exact : Exactly limit (map_pair whole) (Fitting IsPair pair_mark) (Ends 1)
  pair_exact =
      step (λ (p : Pair). p.0) Free (name_exact limit)
      (λ n. behind (symbol_exact s.Colon) (step (λ (p : Pair). p.1) (λ (p : Pair). (p.0 ≡ n) × Free p) (whole_exact exact)
      (λ x. made (made_pair n x) (λ (p : Pair). (p.1 ≡ x) × ((p.0 ≡ n) × Free p)) (refl, (refl, tt)) (λ p h. rw (← h.0, ← h.1.0) refl))
      (λ p y more well fits ends. ending (Ends 1) y more fits ends)))
      (λ p y more well fits ends. tt)

abbrev Parts : Pairs → List Token → Type 0
Parts = Behind (sign s.OpenBrace) (Closing IsPair pair_mark s.CloseBrace pairs_of)

pub pairs_exact : (limit : ℕ) (whole : Parser Expression) → Exact limit 1 whole → PairsAreExact limit whole
unfolding map_pairs parse.same_symbol
pairs_exact limit whole exact =
    restated
    (leading_exact (symbol_exact s.OpenBrace)
    (closing_exact (pair_exact limit whole exact) comma_ends s.CloseBrace pairs_of (λ t more h. rw h.spelled (refl, omega arith)) (λ p ns front more well fits. shown (is_symbol s.CloseBrace) (pair_mark p ++ ns) front more (name_opens p.0.quoted p.0.text) fits)))
    out into (λ more h. h)
  where
    out : (ps : Pairs) (front : List Token) → Parts ps front → PairsSpelled ps front
    out ps front h =
        let v = h.inner in
        let same : v.value ≡ list_of ps = sym (ap list_of v.is ∙ list_again v.value) in
        let listed = subst (λ (qs : List Pair). Fitting (AllByRecursion IsPair) (λ qs. commas (map pair_mark qs) ++ sign s.CloseBrace ∷ []) qs h.others) same v.inner in
        record { well = well_of ps listed.well; fits = behind_fits h (commas (pair_marks ps) ++ sign s.CloseBrace ∷ []) (subst (λ (ms : List (List Mark)). Fit h.others (commas ms ++ sign s.CloseBrace ∷ [])) (marks_of ps) listed.fits) }

    into : (ps : Pairs) (front : List Token) → PairsSpelled ps front → Parts ps front
    into ps front h = behind_of h.fits (λ g p. record { value = list_of ps; is = sym (pairs_again ps); inner = fitting (all_of ps h.well) (subst (λ (ms : List (List Mark)). Fit g (commas ms ++ sign s.CloseBrace ∷ [])) (sym (marks_of ps)) p) })
