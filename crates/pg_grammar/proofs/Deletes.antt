-- The clause DELETE.
use Rattle.std.proofs.Common.{ℕ, ◌+◌, Bool, List, refl, sym, subst}
use Rattle.pg_meaning.specs.declared.lexemes.Keyword.TheVariants as k
use Rattle.pg_meaning.specs.Tokens.{Token}
use Rattle.pg_meaning.specs.Tree.{Expression, Clause}
use Rattle.pg_meaning.specs.Tree as tree
use Rattle.pg_meaning.specs.Grammar.{key, flag, Fit}
use Rattle.pg_meaning.specs.Grammar as grammar
use Rattle.pg_meaning.specs.Parse as parse
use Rattle.pg_meaning.specs.Parse.{Parser, sees_keyword, delete_clause}
use Rattle.pg_grammar.specs.Rules.{Exactly, Ends, ClauseSpelled}
use Rattle.pg_grammar.proofs.Combinators.{Sequence, Behind, Made, eat_keyword_exact, keyword_exact, Fitting, sequence_exact, leading_exact, made_exact, sequence_fits, sequence_of, behind_fits, behind_of, AfterItems, fitting, Free}
use Rattle.pg_grammar.proofs.FirstTokens.{keyword_other}
use Rattle.pg_grammar.proofs.Conditions.{Whole, WholesSpelled, wholes_exact}

abbrev Detached : Bool → List Token → Type 0
Detached = Fitting Free (λ b. flag b (key k.Detach))

abbrev Deleted : Bool → Clause → List Token → Type 0
Deleted b = Made (tree.delete b) WholesSpelled

abbrev pub DeleteParts : Clause → List Token → Type 0
DeleteParts = Sequence Detached (λ b. Behind (key k.Delete) (Deleted b))

pub delete_exact : {limit : ℕ} {whole : Parser Expression} → Exactly limit whole Whole (Ends 1) → Exactly (limit + 1) (delete_clause whole) DeleteParts (AfterItems (Ends 1))
unfolding delete_clause parse.same_keyword
delete_exact {limit} exact =
    sequence_exact (eat_keyword_exact k.Detach)
    (λ b. leading_exact (keyword_exact k.Delete) (made_exact (tree.delete b) (wholes_exact exact)))
    (λ b c front more h ends. keyword_other k.Delete k.Detach refl front more h)

pub delete_out : (c : Clause) (front : List Token) → DeleteParts c front → ClauseSpelled grammar.updating c front
delete_out c front h =
    let p = h.second in let v = p.inner in
    subst (λ y. ClauseSpelled grammar.updating y front) (sym v.is) (record { well = v.inner.well; is = refl; fits = sequence_fits h (flag h.value (key k.Detach)) _ h.first.fits (behind_fits p _ v.inner.fits) })

pub delete_into : (b : Bool) (xs : List Expression) (front : List Token) → ClauseSpelled grammar.updating (tree.delete b xs) front → DeleteParts (tree.delete b xs) front
delete_into b xs front h =
    sequence_of b (flag b (key k.Detach)) _ h.fits (λ f p. fitting tt p) (λ g p. behind_of p (λ g p. record { value = xs; is = refl; inner = fitting h.well p }))
