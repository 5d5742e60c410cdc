-- Expressions behind a keyword, as WHERE has one.
use Rattle.std.proofs.Common.{◌≡◌, ℕ, true, List, Option, map, arith}
use Rattle.pg_meaning.specs.declared.lexemes.Keyword.{Keyword}
use Rattle.pg_meaning.specs.declared.lexemes.Symbol.TheVariants as s
use Rattle.pg_meaning.specs.Tokens.{Token}
use Rattle.pg_meaning.specs.Tree.{Expression}
use Rattle.pg_meaning.specs.Grammar.{key, commas, keyed, marks, optional_marks, Fit, IsWellFormed, HasOperands, level, chain_level, operator_level}
use Rattle.pg_meaning.specs.Grammar as grammar
use Rattle.pg_meaning.specs.Parse as parse
use Rattle.pg_meaning.specs.Parse.{Parser, ◌>>◌, maybe, sees_symbol, sees_keyword, separated}
use Rattle.pg_grammar.specs.Rules.{Exactly, Exact, Ends}
use Rattle.pg_grammar.proofs.Chains.{any_spelled}
use Rattle.pg_grammar.proofs.Terminals.{symbol_is}
use Rattle.pg_grammar.proofs.Combinators.{Fitting, Items, After, AfterItems, fitting, restated, behind, maybe_exact, items_exact, keyword_exact, keyword_begins}

abbrev pub Whole : Expression → List Token → Type 0
Whole = Fitting IsWellFormed marks

pub whole_exact : {limit : ℕ} {whole : Parser Expression} → Exact limit 1 whole → Exactly limit whole Whole (Ends 1)
whole_exact exact = restated exact (λ x front h. fitting h.well h.fits) (λ x front h. any_spelled x front h.well h.fits) (λ more ends. ends)

-- ---- behind a keyword, where that stands

abbrev pub MayHave : Keyword → Option Expression → List Token → Type 0
MayHave x = Fitting (grammar.Each IsWellFormed) (optional_marks (keyed x))

pub may_have_exact : {limit : ℕ} {whole : Parser Expression} (x : Keyword) → Exactly limit whole Whole (Ends 1) → Exactly limit (maybe (sees_keyword x) (parse.keyword x >> whole)) (MayHave x) (After (sees_keyword x) (Ends 1))
may_have_exact x exact = maybe_exact (sees_keyword x) (behind (keyword_exact x) exact) (λ e front more h. keyword_begins x (marks e) front more h.fits)

-- ---- several of them

-- no expression goes on with a comma
pub comma_ends : (more : List Token) → sees_symbol s.Comma more ≡ true → Ends 1 more
comma_ends more e = let i = symbol_is s.Comma more e in rw (i.1, i.2.spelled) (omega arith)

abbrev pub WholesSpelled : List Expression → List Token → Type 0
WholesSpelled = Fitting (Items IsWellFormed) (λ xs. commas (map marks xs))

pub wholes_exact : {limit : ℕ} {whole : Parser Expression} → Exactly limit whole Whole (Ends 1) → Exactly limit (separated whole) WholesSpelled (AfterItems (Ends 1))
wholes_exact exact = items_exact exact comma_ends
