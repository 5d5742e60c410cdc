-- The properties of a pattern, and what else its parts share.
use Rattle.std.proofs.Common.{◌≡◌, ℕ, Bool, true, false, List, [], ◌∷◌, ◌++◌, Some, refl, inl, inr, arith}
use Rattle.pg_meaning.specs.declared.lexemes.Symbol.TheVariants as s
use Rattle.pg_meaning.specs.Tokens.{Lexeme, Token}
use Rattle.pg_meaning.specs.Tokens as lexeme
use Rattle.pg_meaning.specs.Tree.{Name, Expression, Pairs, Properties}
use Rattle.pg_meaning.specs.Tree as tree
use Rattle.pg_meaning.specs.Grammar.{IsSpelled, Mark, var, var_marks, optional_marks, label_marks, properties_marks, parameter_mark, parameter as parameter_what, Accepts, Fit, AreProperties, Each as EachOf}
use Rattle.pg_meaning.specs.Parse as parse
use Rattle.pg_meaning.specs.Parse.{Parser, ◌<$>◌, branch, pure, maybe, is_symbol, sees, sees_symbol, var_of, name_at, parameter_of, with_rest, begins_var, begins_parameter, map_pairs, properties, labels, labels_if_any}
use Rattle.pg_grammar.specs.Rules.{Exactly, Exact, Anything, PairsSpelled}
use Rattle.pg_grammar.proofs.Maps.{pairs_exact}
use Rattle.pg_grammar.proofs.Combinators.{Fitting, Free, Is, Made, Only, Either, After, fitting, fewer, restated, narrowed, pure_exact, made_exact, either_exact, maybe_exact, one_exact, var_exact, no_tokens, symbol_begins}
use Rattle.pg_grammar.proofs.FirstTokens.{Shows}
use Rattle.pg_grammar.proofs.Terminals.{var_seen, with_rest_is}

-- ---- a parameter

parameter_spelled : (at : ℕ) (l : Lexeme) (n : Name) → parameter_of at l ≡ Some n → IsSpelled (parameter_what n.quoted n.text) l × (at ≡ n.place)
parameter_spelled at (lexeme.parameter q w) n e = let same : name_at at q w ≡ n = cc in rw (← same) (refl, refl)
parameter_spelled at _ n e = absurd cc

parameter_takes : (ts more : List Token) (n : Name) → parse.parameter ts ≡ Some (n, more) → (t : Token) × (ts ≡ t ∷ more) × Accepts (parameter_mark n) t
unfolding parse.parameter
parameter_takes [] more n e = absurd cc
parameter_takes (t ∷ ts) more n e =
    let h = with_rest_is (parameter_of t.start t.lexeme) ts n more e in
    let s = parameter_spelled t.start t.lexeme n h.0 in
    (t, rw h.1 refl, record { spelled = s.0; starts = (s.1, tt); finishes = tt })

parameter_again : (t : Token) (more : List Token) (n : Name) → Accepts (parameter_mark n) t → parse.parameter (t ∷ more) ≡ Some (n, more)
unfolding parse.parameter
parameter_again t more n h = rw (h.spelled, h.starts.0) refl

parameter_exact : (n : ℕ) → Exactly n parse.parameter (Fitting Free (λ x. parameter_mark x ∷ [])) Anything
parameter_exact n = one_exact parameter_mark parameter_takes parameter_again

parameter_begins : (n : Name) (front more : List Token) → Fit front (parameter_mark n ∷ []) → (sees_symbol s.OpenBrace (front ++ more) ≡ false) × (begins_parameter (front ++ more) ≡ true)
parameter_begins n [] more fits = absurd fits
parameter_begins n (t ∷ front) more fits = rw fits.0.spelled (refl, refl)

-- ---- properties

-- no properties begin
abbrev pub NoProperties : List Token → Type 0
NoProperties more = (sees_symbol s.OpenBrace more ≡ false) × (begins_parameter more ≡ false)

abbrev PropertiesSpelled : Properties → List Token → Type 0
PropertiesSpelled = Fitting AreProperties properties_marks

abbrev Given : Properties → List Token → Type 0
Given = Made tree.given PairsSpelled

abbrev FromParameter : Properties → List Token → Type 0
FromParameter = Made tree.from_parameter (Is parameter_mark)

abbrev Others : Properties → List Token → Type 0
Others = Either FromParameter (Only tree.no_properties)

pub properties_exact : (limit : ℕ) (whole : Parser Expression) → Exact limit 1 whole → Exactly limit (properties whole) PropertiesSpelled NoProperties
unfolding properties
properties_exact limit whole exact =
    restated
    (either_exact (sees_symbol s.OpenBrace) (narrowed (made_exact tree.given (fewer (omega arith) (pairs_exact limit whole exact))) (λ more h. tt))
    (either_exact begins_parameter (narrowed (made_exact tree.from_parameter (parameter_exact limit)) (λ more h. tt)) (narrowed (pure_exact tree.no_properties) (λ more h. tt)) (λ x front more h. (parameter_begins h.value front more h.inner.fits).1) (λ x front more h ends. rw h.1 ends.1))
    (λ x front more h. symbol_begins s.OpenBrace _ front more h.inner.fits) unseen)
    out into (λ more h. h)
  where
    unseen : (x : Properties) (front more : List Token) → Others x front → NoProperties more → sees_symbol s.OpenBrace (front ++ more) ≡ false
    unseen x front more (inl h) ends = (parameter_begins h.value front more h.inner.fits).0
    unseen x front more (inr h) ends = rw h.1 ends.0

    out : (x : Properties) (front : List Token) → Either Given Others x front → PropertiesSpelled x front
    out x front (inl h) = rw h.is (fitting h.inner.well h.inner.fits)
    out x front (inr (inl h)) = rw h.is (fitting tt h.inner.fits)
    out x front (inr (inr h)) = rw (h.0, h.1) (fitting tt tt)

    into : (x : Properties) (front : List Token) → PropertiesSpelled x front → Either Given Others x front
    into tree.no_properties front h = inr (inr (refl, no_tokens front h.fits))
    into (tree.given ps) front h = inl (record { value = ps; is = refl; inner = record { well = h.well; fits = h.fits } })
    into (tree.from_parameter n) front h = inr (inl (record { value = n; is = refl; inner = fitting tt h.fits }))

-- ---- a variable

pub var_begins : (n : Name) (ms : List Mark) (front more : List Token) → Fit front (var n ∷ ms) → begins_var (front ++ more) ≡ true
var_begins n ms [] more fits = absurd fits
var_begins n ms (t ∷ front) more fits = var_seen t (front ++ more) n fits.0

pub var_or_none : (limit : ℕ) → Exactly limit (maybe begins_var parse.var) (Fitting (EachOf Free) (optional_marks var_marks)) (After begins_var Anything)
var_or_none limit = maybe_exact begins_var (var_exact limit) (λ n front more h. var_begins n [] front more h.fits)

-- ---- what these begin with

pub behind_properties : (p : Lexeme → Bool) (ps : Properties) (ms : List Mark) → p (lexeme.symbol s.OpenBrace) ≡ false → ((q : Bool) (w : List ℕ) → p (lexeme.parameter q w) ≡ false) → Shows p false ms → Shows p false (properties_marks ps ++ ms)
behind_properties p tree.no_properties ms brace parameter avoids = avoids
behind_properties p (tree.given ps) ms brace parameter avoids = λ l h. rw h brace
behind_properties p (tree.from_parameter n) ms brace parameter avoids = λ l h. rw h (parameter n.quoted n.text)

pub behind_labels : (p : Lexeme → Bool) (ls : List Name) (ms : List Mark) → p (lexeme.symbol s.Colon) ≡ false → Shows p false ms → Shows p false (label_marks ls ++ ms)
behind_labels p [] ms colon avoids = avoids
behind_labels p (n ∷ ls) ms colon avoids = λ l h. rw h colon
