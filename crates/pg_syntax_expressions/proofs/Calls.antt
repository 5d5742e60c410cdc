-- A call behind its opening sign, by what was taken.
use Rattle.std.proofs.Common.{◌≡◌, Bool, true, false, List, Some, None, ap, ◌∙◌}
use Rattle.pg_meaning.specs.Parse as parse
use Rattle.pg_meaning.specs.Parse.{Outcome, Parser, ◌>>=◌, ◌>>◌, and_then, branch, pure, eat_keyword, eat_symbol, expressions_of, separated, sees_symbol, symbol}
use Rattle.pg_meaning.specs.Tokens.{Token}
use Rattle.pg_meaning.specs.Tree as tree
use Rattle.pg_meaning.specs.declared.lexemes.Keyword.TheVariants as k
use Rattle.pg_meaning.specs.declared.lexemes.Symbol.TheVariants as s
use Rattle.pg_syntax_expressions.proofs.Steps.{branch_taken, branch_left}

module _ (whole : Parser tree.Expression) (f : tree.Name) where
  abbrev closed : tree.Expression → Parser tree.Expression
  closed x = symbol s.CloseParenthesis >> pure x

  abbrev call_of : Bool → List tree.Expression → tree.Expression
  call_of distinct xs = tree.call f false distinct (expressions_of xs)

  abbrev starred : tree.Expression
  starred = tree.call f true false tree.no_expressions

  abbrev empty : tree.Expression
  empty = tree.call f false false tree.no_expressions

  abbrev with_some : Parser tree.Expression
  with_some = eat_keyword k.Distinct >>= (λ distinct. separated whole >>= (λ xs. closed (call_of distinct xs)))

  abbrev without_star : Parser tree.Expression
  without_star = branch (sees_symbol s.CloseParenthesis) (closed empty) with_some

  closes : (x : tree.Expression) (ts us : List Token) → symbol s.CloseParenthesis ts ≡ Some (tt, us) → closed x ts ≡ Some (x, us)
  closes x ts us end = ap (λ (o : Outcome (Unit {0})). and_then o (λ u. pure x)) end

  stays_open : (x : tree.Expression) (ts : List Token) → symbol s.CloseParenthesis ts ≡ None → closed x ts ≡ None
  stays_open x ts end = ap (λ (o : Outcome (Unit {0})). and_then o (λ u. pure x)) end

  module _ (ts us : List Token) where
    behind_star : eat_symbol s.Star ts ≡ Some (true, us) → parse.call whole f ts ≡ closed starred us
    unfolding parse.call
    behind_star star = branch_taken s.Star (closed starred) without_star ts us star

    pub star_fails : eat_symbol s.Star ts ≡ Some (true, us) → symbol s.CloseParenthesis us ≡ None → parse.call whole f ts ≡ None
    star_fails star end = behind_star star ∙ stays_open starred us end

    pub with_star : (vs : List Token) → eat_symbol s.Star ts ≡ Some (true, us) → symbol s.CloseParenthesis us ≡ Some (tt, vs) → parse.call whole f ts ≡ Some (starred, vs)
    with_star vs star end = behind_star star ∙ closes starred us vs end

    no_star : eat_symbol s.Star ts ≡ Some (false, us) → parse.call whole f ts ≡ without_star us
    unfolding parse.call
    no_star star = branch_left s.Star (symbol s.Star >> closed starred) without_star ts us star

    pub with_nothing : (vs : List Token) → eat_symbol s.Star ts ≡ Some (false, us) → eat_symbol s.CloseParenthesis us ≡ Some (true, vs) → parse.call whole f ts ≡ Some (empty, vs)
    with_nothing vs star close = no_star star ∙ branch_taken s.CloseParenthesis (pure empty) with_some us vs close

    module _ (vs ws : List Token) (distinct : Bool) (star : eat_symbol s.Star ts ≡ Some (false, us)) (close : eat_symbol s.CloseParenthesis us ≡ Some (false, vs)) (word : eat_keyword k.Distinct vs ≡ Some (distinct, ws)) where
      arguments : parse.call whole f ts ≡ and_then (separated whole ws) (λ xs. closed (call_of distinct xs))
      arguments =
          no_star star ∙ branch_left s.CloseParenthesis (closed empty) with_some us vs close
          ∙ ap (λ (o : Outcome Bool). and_then o (λ d. separated whole >>= (λ xs. closed (call_of d xs)))) word

      pub arguments_fail : separated whole ws ≡ None → parse.call whole f ts ≡ None
      arguments_fail none = arguments ∙ ap (λ (o : Outcome (List tree.Expression)). and_then o (λ xs. closed (call_of distinct xs))) none

      pub close_fails : (xs : List tree.Expression) (ys : List Token) → separated whole ws ≡ Some (xs, ys) → symbol s.CloseParenthesis ys ≡ None → parse.call whole f ts ≡ None
      close_fails xs ys found end = arguments ∙ ap (λ (o : Outcome (List tree.Expression)). and_then o (λ zs. closed (call_of distinct zs))) found ∙ stays_open (call_of distinct xs) ys end

      pub with_arguments : (xs : List tree.Expression) (ys zs : List Token) → separated whole ws ≡ Some (xs, ys) → symbol s.CloseParenthesis ys ≡ Some (tt, zs) → parse.call whole f ts ≡ Some (call_of distinct xs, zs)
      with_arguments xs ys zs found end = arguments ∙ ap (λ (o : Outcome (List tree.Expression)). and_then o (λ es. closed (call_of distinct es))) found ∙ closes (call_of distinct xs) ys zs end
