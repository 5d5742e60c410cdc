-- A CASE behind its keyword, part by part.
use Rattle.std.proofs.Common.{◌≡◌, List, [], ◌∷◌, Option, Some, None, refl, ◌∙◌}
use Rattle.pg_meaning.specs.Parse as parse
use Rattle.pg_meaning.specs.Parse.{Parser, ◌>>=◌, ◌>>◌, keyword, many, maybe, not_yet, one_when, perhaps_of, pure, sees_keyword, and_then, Outcome}
use Rattle.pg_meaning.specs.Tokens.{Token}
use Rattle.pg_meaning.specs.Tree as tree
use Rattle.pg_meaning.specs.declared.lexemes.Keyword.TheVariants as k
use Rattle.pg_syntax_expressions.proofs.Steps.{fails_at, goes_on}
use Rattle.pg_syntax_expressions.specs.Parts.{one_or_more}

abbrev pub When : Type 0
When = tree.Expression × tree.Expression

abbrev case_of : Option tree.Expression → List When → Option tree.Expression → tree.Expression
case_of subject whens otherwise = tree.case (perhaps_of subject) (parse.whens_of whens) (perhaps_of otherwise)

module _ (whole : Parser tree.Expression) where
  abbrev pub subject_part : Parser (Option tree.Expression)
  subject_part = maybe (not_yet k.When) whole

  abbrev pub whens_part : Parser (List When)
  whens_part = one_or_more (sees_keyword k.When) (one_when whole)

  abbrev pub otherwise_part : Parser (Option tree.Expression)
  otherwise_part = maybe (sees_keyword k.Else) (keyword k.Else >> whole)

  abbrev behind_otherwise : Option tree.Expression → List When → Option tree.Expression → Parser tree.Expression
  behind_otherwise subject whens otherwise = keyword k.End >> pure (case_of subject whens otherwise)

  abbrev behind_whens : Option tree.Expression → List When → Parser tree.Expression
  behind_whens subject whens = otherwise_part >>= behind_otherwise subject whens

  abbrev behind_subject : Option tree.Expression → Parser tree.Expression
  behind_subject subject = whens_part >>= behind_whens subject

  abbrev more : When → Parser (List When)
  more first = many (sees_keyword k.When) (one_when whole) (first ∷ [])

  regrouped : (subject : Option tree.Expression) (o : Outcome When) → and_then o (λ w. more w >>= behind_whens subject) ≡ and_then (and_then o more) (behind_whens subject)
  regrouped subject None = refl
  regrouped subject (Some p) = refl

  pub subject_fails : (ts : List Token) → subject_part ts ≡ None → parse.case whole ts ≡ None
  unfolding parse.case
  subject_fails ts none = fails_at subject_part (λ subject. one_when whole >>= (λ w. more w >>= behind_whens subject)) ts none

  module _ (ts us : List Token) (subject : Option tree.Expression) (begins : subject_part ts ≡ Some (subject, us)) where
    past_subject : parse.case whole ts ≡ behind_subject subject us
    unfolding parse.case
    past_subject = goes_on subject_part (λ found. one_when whole >>= (λ w. more w >>= behind_whens found)) ts us subject begins ∙ regrouped subject (one_when whole us)

    pub whens_fail : whens_part us ≡ None → parse.case whole ts ≡ None
    whens_fail none = past_subject ∙ fails_at (whens_part) (behind_whens subject) us none

    module _ (ws : List Token) (whens : List When) (found : whens_part us ≡ Some (whens, ws)) where
      past_whens : parse.case whole ts ≡ behind_whens subject whens ws
      past_whens = past_subject ∙ goes_on (whens_part) (behind_whens subject) us ws whens found

      pub otherwise_fails : otherwise_part ws ≡ None → parse.case whole ts ≡ None
      otherwise_fails none = past_whens ∙ fails_at otherwise_part (behind_otherwise subject whens) ws none

      module _ (xs : List Token) (otherwise : Option tree.Expression) (other : otherwise_part ws ≡ Some (otherwise, xs)) where
        past_otherwise : parse.case whole ts ≡ behind_otherwise subject whens otherwise xs
        past_otherwise = past_whens ∙ goes_on otherwise_part (behind_otherwise subject whens) ws xs otherwise other

        pub end_fails : keyword k.End xs ≡ None → parse.case whole ts ≡ None
        end_fails none = past_otherwise ∙ fails_at (keyword k.End) (λ u. pure (case_of subject whens otherwise)) xs none

        pub case_gives : (ys : List Token) → keyword k.End xs ≡ Some (tt, ys) → parse.case whole ts ≡ Some (case_of subject whens otherwise, ys)
        case_gives ys end = past_otherwise ∙ goes_on (keyword k.End) (λ u. pure (case_of subject whens otherwise)) xs ys tt end
