-- Lists in brackets, and what stands in the parentheses of a call.
use Rattle.std.proofs.Common.{◌≡◌, ℕ, ◌<◌, Bool, true, false, List, [], ◌∷◌, ◌++◌, map, refl, sym, ap, subst, ◌∙◌, inl, inr, append_assoc, arith}
use Rattle.std.specs.List.{AllByRecursion}
use Rattle.pg_meaning.specs.declared.lexemes.Keyword.TheVariants as k
use Rattle.pg_meaning.specs.declared.lexemes.Symbol.{Symbol}
use Rattle.pg_meaning.specs.declared.lexemes.Symbol.TheVariants as s
use Rattle.pg_meaning.specs.Tokens.{Token}
use Rattle.pg_meaning.specs.Tokens as lexeme
use Rattle.pg_meaning.specs.Tree.{Name, Expression, Expressions}
use Rattle.pg_meaning.specs.Tree as tree
use Rattle.pg_meaning.specs.Grammar.{Mark, key, sign, flag, further, commas, marks, list_marks, Accepts, Fit, HasExpressions, HasArguments, IsNonEmpty, IsWellFormed, AllWellFormed}
use Rattle.pg_meaning.specs.Parse as parse
use Rattle.pg_meaning.specs.Parse.{Parser, branch, ◌>>=◌, ◌>>◌, pure, sees_symbol, sees_keyword, symbol, eat_symbol, eat_keyword, separated, expressions_of, listed, call}
use Rattle.pg_grammar.specs.Rules.{Exactly, Exact, Anything, Ends, binding, opens, Opened}
use Rattle.pg_grammar.proofs.Combinators.{Fitting, Free, Only, Items, AfterItems, Sequence, Behind, Either, ClosedItems, fitting, restated, behind_exact, sequence_exact, pure_exact, either_exact, closed_exact, closing_exact, closed_fits, closed_of, symbol_exact, eat_keyword_exact, no_tokens, sequence_fits, sequence_of, behind_fits, behind_of}
use Rattle.pg_grammar.proofs.Conditions.{whole_exact, comma_ends}
use Rattle.pg_grammar.proofs.FirstTokens.{symbol_first, symbol_other}
use Rattle.pg_grammar.proofs.Fits.{fit_split}
use Rattle.pg_grammar.proofs.Openings.{opened, opened_front, symbol_closed, keyword_closed}

-- ---- a list and its tree

abbrev pub items_of : Expressions → List Expression
items_of tree.no_expressions = []
items_of (tree.expression x xs) = x ∷ items_of xs

pub items_again : (xs : Expressions) → expressions_of (items_of xs) ≡ xs
items_again tree.no_expressions = refl
items_again (tree.expression x xs) = ap (tree.expression x) (items_again xs)

list_marks_of : (xs : List Expression) → list_marks (expressions_of xs) ≡ map marks xs
list_marks_of [] = refl
list_marks_of (x ∷ xs) = ap (λ (ms : List (List Mark)). marks x ∷ ms) (list_marks_of xs)

all_well : (xs : List Expression) → AllByRecursion IsWellFormed xs → AllWellFormed (expressions_of xs)
all_well [] all = tt
all_well (x ∷ xs) all = (all.0, all_well xs all.1)

each_well : (xs : List Expression) → AllWellFormed (expressions_of xs) → AllByRecursion IsWellFormed xs
each_well [] all = tt
each_well (x ∷ xs) all = (all.0, each_well xs all.1)

-- the first of them begins as an expression does
begins_open : (x : Expression) (ns : List Mark) (front : List Token) → IsWellFormed x → Fit front (marks x ++ ns) → Opened front
begins_open x ns front well fits = let parts = fit_split front (marks x) ns fits in opened_front front parts.0 parts.1 parts.2 (opened x parts.0 well parts.3)

-- no expression goes on with the closing symbol
closes : (close : Symbol) → parse.same_symbol close s.Comma ≡ false → binding (lexeme.symbol close) < 1 → (t : Token) (more : List Token) → Accepts (sign close) t → AfterItems (Ends 1) (t ∷ more)
closes close apart less t more h = rw h.spelled (apart, less)

-- ---- lists

pub record Bracketed (xs : List Expression) (front : List Token) : Type 0 where
  pub well : AllWellFormed (expressions_of xs)
  pub fits : Fit front (commas (list_marks (expressions_of xs)) ++ sign s.CloseBracket ∷ [])

-- ---- calls

pub record CallSpelled (f : Name) (a : Expression) (front : List Token) : Type 0 where
  pub star : Bool
  pub distinct : Bool
  pub xs : Expressions
  pub is : a ≡ tree.call f star distinct xs
  pub has : HasArguments star distinct xs
  pub well : AllWellFormed xs
  pub fits : Fit front (flag star (sign s.Star) ++ flag distinct (key k.Distinct) ++ commas (list_marks xs) ++ sign s.CloseParenthesis ∷ [])

has_expressions : (xs : List Expression) → IsNonEmpty xs → HasExpressions (expressions_of xs)
has_expressions [] some = absurd some
has_expressions (x ∷ xs) some = tt

arguments_had : (distinct : Bool) (xs : List Expression) → IsNonEmpty xs → HasArguments false distinct (expressions_of xs)
arguments_had true xs some = has_expressions xs some
arguments_had false xs some = tt

abbrev made_call : Name → Bool → List Expression → Expression
made_call f distinct xs = tree.call f false distinct (expressions_of xs)

abbrev StarParts : Name → Expression → List Token → Type 0
StarParts f = Behind (sign s.Star) (Behind (sign s.CloseParenthesis) (Only (tree.call f true false tree.no_expressions)))

abbrev BareParts : Name → Expression → List Token → Type 0
BareParts f = Behind (sign s.CloseParenthesis) (Only (tree.call f false false tree.no_expressions))

abbrev Arguments : Name → Bool → Expression → List Token → Type 0
Arguments f distinct = ClosedItems IsWellFormed marks s.CloseParenthesis (made_call f distinct)

abbrev ArgumentParts : Name → Expression → List Token → Type 0
ArgumentParts f = Sequence (Fitting Free (λ d. flag d (key k.Distinct))) (Arguments f)

arguments_open : (f : Name) (distinct : Bool) (a : Expression) (front : List Token) → Arguments f distinct a front → Opened front
arguments_open f distinct a front h = by h.value h.first.well (closed_fits h)
  where
    by : (xs : List Expression) → Items IsWellFormed xs → Fit front (commas (map marks xs) ++ sign s.CloseParenthesis ∷ []) → Opened front
    by [] all fits = absurd all.0
    by (x ∷ xs) all fits = begins_open x (further (map marks xs) ++ sign s.CloseParenthesis ∷ []) front all.1.0 (rw append_assoc at fits)

-- neither DISTINCT nor an expression begins with the symbol
no_symbol : (y : Symbol) → opens (lexeme.symbol y) ≡ false → (f : Name) (a : Expression) (front more : List Token) → ArgumentParts f a front → sees_symbol y (front ++ more) ≡ false
no_symbol y none f a front more h = by h.value h.f h.whole h.first.fits h.second
  where
    by : (d : Bool) (l : List Token) → front ≡ l ++ h.g → Fit l (flag d (key k.Distinct)) → Arguments f d a h.g → sees_symbol y (front ++ more) ≡ false
    by true [] e fits i = absurd fits
    by true (t ∷ l) e fits i = rw (e, fits.0.spelled.1) refl
    by false [] e fits i = rw e (symbol_closed y h.g more none (arguments_open f false a h.g i))
    by false (t ∷ l) e fits i = absurd fits

call_out : (f : Name) (a : Expression) (front : List Token) → Either (StarParts f) (Either (BareParts f) (ArgumentParts f)) a front → CallSpelled f a front
call_out f a front (inl h) =
    let c = h.inner in
    record { star = true; distinct = false; xs = tree.no_expressions; is = c.inner.0; has = (refl, refl); well = tt; fits = behind_fits h (sign s.CloseParenthesis ∷ []) (behind_fits c [] (rw c.inner.1 tt)) }
call_out f a front (inr (inl h)) = record { star = false; distinct = false; xs = tree.no_expressions; is = h.inner.0; has = tt; well = tt; fits = behind_fits h [] (rw h.inner.1 tt) }
call_out f a front (inr (inr h)) =
    let c = h.second in let xs = c.value in
    let fits = sequence_fits h (flag h.value (key k.Distinct)) (commas (map marks xs) ++ sign s.CloseParenthesis ∷ []) h.first.fits (closed_fits c) in
    record { star = false; distinct = h.value; xs = expressions_of xs; is = c.second.inner.0; has = arguments_had h.value xs c.first.well.0; well = all_well xs c.first.well.1; fits = rw (list_marks_of xs, append_assoc) fits }

call_into : (f : Name) (a : Expression) (front : List Token) → CallSpelled f a front → Either (StarParts f) (Either (BareParts f) (ArgumentParts f)) a front
call_into f a front h = by h.star h.distinct h.xs h.is h.has h.well h.fits
  where
    by : (star distinct : Bool) (xs : Expressions) → a ≡ tree.call f star distinct xs → HasArguments star distinct xs → AllWellFormed xs
        → Fit front (flag star (sign s.Star) ++ flag distinct (key k.Distinct) ++ commas (list_marks xs) ++ sign s.CloseParenthesis ∷ []) → Either (StarParts f) (Either (BareParts f) (ArgumentParts f)) a front
    by true true xs is has well fits = absurd (let bad = has.0 in cc)
    by true false (tree.expression x xs) is has well fits = absurd (let bad = has.1 in cc)
    by true false tree.no_expressions is has well fits = inl (behind_of fits (λ g p. behind_of p (λ g p. (is, no_tokens g p))))
    by false true tree.no_expressions is has well fits = absurd has
    by false false tree.no_expressions is has well fits = inr (inl (behind_of fits (λ g p. (is, no_tokens g p))))
    by false distinct (tree.expression x xs) is has well fits =
        let ys : List Expression = items_of (tree.expression x xs) in
        let again : expressions_of ys ≡ tree.expression x xs = items_again (tree.expression x xs) in
        let same : list_marks (tree.expression x xs) ≡ map marks ys = ap list_marks (sym again) ∙ list_marks_of ys in
        let there : Fit front (flag distinct (key k.Distinct) ++ (commas (list_marks (tree.expression x xs)) ++ sign s.CloseParenthesis ∷ [])) = rw append_assoc at fits in
        let listed = subst (λ (ms : List (List Mark)). Fit front (flag distinct (key k.Distinct) ++ (commas ms ++ sign s.CloseParenthesis ∷ []))) same there in
        inr (inr (sequence_of distinct (flag distinct (key k.Distinct)) (commas (map marks ys) ++ sign s.CloseParenthesis ∷ []) listed (λ g p. fitting tt p)
        (λ g p. closed_of ys (is ∙ ap (tree.call f false distinct) (sym again)) (tt, each_well ys (subst AllWellFormed (sym again) well)) p)))

module _ (limit : ℕ) (whole : Parser Expression) (exact : Exact limit 1 whole) where
  pub listed_exact : Exactly limit (listed s.CloseBracket whole) Bracketed Anything
  unfolding listed parse.same_symbol
  listed_exact = restated (closing_exact (whole_exact exact) comma_ends s.CloseBracket (λ xs. xs) (closes s.CloseBracket refl (omega arith)) (λ x ns front more well fits. symbol_closed s.CloseBracket front more refl (begins_open x ns front well fits)))
      (λ xs front h. subst (λ (l : List Expression). Bracketed l front) (sym h.is) (record { well = all_well h.value h.inner.well; fits = rw (list_marks_of h.value) h.inner.fits }))
      (λ xs front h. record { value = xs; is = refl; inner = fitting (each_well xs h.well) (rw (← list_marks_of xs) h.fits) })
      (λ more h. h)

  pub call_exact : (f : Name) → Exactly limit (call whole f) (CallSpelled f) Anything
  unfolding call parse.same_symbol
  call_exact f =
      restated
      (either_exact (sees_symbol s.Star) (behind_exact (symbol_exact s.Star) (behind_exact (symbol_exact s.CloseParenthesis) (pure_exact (tree.call f true false tree.no_expressions))))
      (either_exact (sees_symbol s.CloseParenthesis) (behind_exact (symbol_exact s.CloseParenthesis) (pure_exact (tree.call f false false tree.no_expressions)))
      (sequence_exact (eat_keyword_exact k.Distinct) (λ d. closed_exact (whole_exact exact) comma_ends s.CloseParenthesis (made_call f d) (closes s.CloseParenthesis refl (omega arith)))
      (λ d a y more h ends. keyword_closed k.Distinct y more (λ w. refl) (arguments_open f d a y h)))
      (λ a front more h. symbol_first s.CloseParenthesis front more h) (λ a front more h ends. no_symbol s.CloseParenthesis refl f a front more h))
      (λ a front more h. symbol_first s.Star front more h) no_star)
      (call_out f) (call_into f) (λ more h. h)
    where
      no_star : (a : Expression) (front more : List Token) → Either (BareParts f) (ArgumentParts f) a front → Anything more → sees_symbol s.Star (front ++ more) ≡ false
      no_star a front more (inl h) ends = symbol_other s.CloseParenthesis s.Star refl front more h
      no_star a front more (inr h) ends = no_symbol s.Star refl f a front more h
