-- The clauses MATCH and UNWIND.
use Rattle.std.proofs.Common.{◌≡◌, ℕ, ◌+◌, Bool, true, List, [], ◌∷◌, ◌++◌, Option, Some, None, map, refl, sym, subst, arith}
use Rattle.pg_meaning.specs.declared.lexemes.Keyword.TheVariants as k
use Rattle.pg_meaning.specs.declared.lexemes.Symbol.TheVariants as s
use Rattle.pg_meaning.specs.Tokens.{Token}
use Rattle.pg_meaning.specs.Tree.{Name, Expression, PathPattern, Clause}
use Rattle.pg_meaning.specs.Tree as tree
use Rattle.pg_meaning.specs.Grammar.{key, keyed, flag, commas, marks, path_marks, optional_marks, IsPath, ArePaths, Fit}
use Rattle.pg_meaning.specs.Grammar as grammar
use Rattle.pg_meaning.specs.Parse as parse
use Rattle.pg_meaning.specs.Parse.{Parser, ◌>>=◌, ◌>>◌, ◌<$>◌, sees_symbol, sees_keyword, begins_relationship, separated, match_clause, unwind_clause}
use Rattle.pg_grammar.specs.Rules.{Exactly, Ends, PathSpelled, NoHop, ClauseEnds, ClauseSpelled, Anything}
use Rattle.pg_grammar.proofs.ClauseEnds.{end_follow, end_where, end_comma, end_hop}
use Rattle.pg_grammar.proofs.Terminals.{symbol_is}
use Rattle.pg_grammar.proofs.Combinators.{Is, Fitting, Sequence, Behind, Made, restated, narrowed, keyword_exact, var_exact, eat_keyword_exact, sequence_exact, behind_exact, leading_exact, made_exact, items_exact, sequence_fits, sequence_of, behind_fits, behind_of, no_tokens, AfterItems, fitting, Free}
use Rattle.pg_grammar.proofs.FirstTokens.{keyword_other}
use Rattle.pg_grammar.proofs.Conditions.{Whole, MayHave, may_have_exact}

-- ---- paths

abbrev pub PathFits : PathPattern → List Token → Type 0
PathFits = Fitting IsPath path_marks

pub path_fits : {limit : ℕ} {path : Parser PathPattern} → Exactly limit path PathSpelled NoHop → Exactly limit path PathFits NoHop
path_fits exact = restated exact (λ p front h. fitting h.well h.fits) (λ p front h. record { well = h.well; fits = h.fits }) (λ more ends. ends)

abbrev pub PathsFit : List PathPattern → List Token → Type 0
PathsFit = Fitting ArePaths (λ ps. commas (map path_marks ps))

comma_ends : (more : List Token) → sees_symbol s.Comma more ≡ true → NoHop more
unfolding parse.same_symbol
comma_ends more e = let i = symbol_is s.Comma more e in rw (i.1, i.2.spelled) refl

pub paths_fit : {limit : ℕ} {path : Parser PathPattern} → Exactly limit path PathSpelled NoHop → Exactly limit (separated path) PathsFit (AfterItems NoHop)
paths_fit exact = items_exact (path_fits exact) comma_ends

-- ---- MATCH

abbrev Optionally : Bool → List Token → Type 0
Optionally = Fitting Free (λ b. flag b (key k.Optional))

abbrev BehindPaths : Bool → List PathPattern → Clause → List Token → Type 0
BehindPaths b ps = Made (tree.match_paths b ps) (MayHave k.Where)

abbrev BehindMatch : Bool → Clause → List Token → Type 0
BehindMatch b = Sequence PathsFit (BehindPaths b)

abbrev pub MatchParts : Clause → List Token → Type 0
MatchParts = Sequence Optionally (λ b. Behind (key k.Match) (BehindMatch b))

-- what stands behind the paths
condition_ends : (c : Option Expression) (front more : List Token) → MayHave k.Where c front → ClauseEnds more → AfterItems NoHop (front ++ more)
condition_ends None front more h ends = rw (no_tokens front h.fits) (end_comma more ends, end_hop more ends)
condition_ends (Some x) [] more h ends = absurd h.fits
condition_ends (Some x) (t ∷ front) more h ends = rw h.fits.0.spelled.1 (refl, refl)

pub match_exact : {limit : ℕ} {whole : Parser Expression} → Exactly limit whole Whole (Ends 1) → Exactly limit (parse.path whole) PathSpelled NoHop → Exactly (limit + 1) (match_clause whole) MatchParts ClauseEnds
unfolding match_clause parse.same_keyword
match_exact {limit} {whole} exact paths =
    sequence_exact (eat_keyword_exact k.Optional)
    (λ b. leading_exact (keyword_exact k.Match)
    (sequence_exact (paths_fit paths) (λ ps. made_exact (tree.match_paths b ps) conditions)
    (λ ps c front more h ends. condition_ends h.value front more h.inner ends)))
    (λ b c front more h ends. keyword_other k.Match k.Optional refl front more h)
  where
    conditions : Exactly limit (parse.condition whole) (MayHave k.Where) ClauseEnds
    conditions = narrowed (may_have_exact k.Where exact) (λ more ends. (end_where more ends, end_follow more ends))

pub match_out : (c : Clause) (front : List Token) → MatchParts c front → ClauseSpelled grammar.reading c front
match_out c front h =
    let p = h.second in let q = p.inner in let v = q.second in
    subst (λ y. ClauseSpelled grammar.reading y front) (sym v.is) (record {
      well = (q.first.well, v.inner.well);
      is = refl;
      fits = sequence_fits h (flag h.value (key k.Optional)) _ h.first.fits (behind_fits p _ (sequence_fits q (commas (map path_marks q.value)) _ q.first.fits v.inner.fits));
    })

pub match_into : (b : Bool) (ps : List PathPattern) (w : Option Expression) (front : List Token) → ClauseSpelled grammar.reading (tree.match_paths b ps w) front → MatchParts (tree.match_paths b ps w) front
match_into b ps w front h =
    sequence_of b (flag b (key k.Optional)) _ h.fits (λ f p. fitting tt p) (λ g p. behind_of p (λ g p.
    sequence_of ps (commas (map path_marks ps)) _ p (λ f p. fitting h.well.0 p) (λ g p. record { value = w; is = refl; inner = fitting h.well.1 p })))

-- ---- UNWIND

abbrev Named : Expression → Clause → List Token → Type 0
Named x = Behind (key k.As) (Made (tree.unwind x) (Is grammar.var))

abbrev pub UnwindParts : Clause → List Token → Type 0
UnwindParts = Behind (key k.Unwind) (Sequence Whole Named)

pub unwind_exact : {limit : ℕ} {whole : Parser Expression} → Exactly limit whole Whole (Ends 1) → Exactly (limit + 1) (unwind_clause whole) UnwindParts Anything
unfolding unwind_clause
unwind_exact {limit} {whole} exact =
    leading_exact (keyword_exact k.Unwind)
    (sequence_exact exact
    (λ x. behind_exact (keyword_exact k.As) (made_exact (tree.unwind x) (var_exact limit)))
    (λ x c front more h ends. rw (h.whole, h.accepts.spelled.1) (omega arith)))

pub unwind_out : (c : Clause) (front : List Token) → UnwindParts c front → ClauseSpelled grammar.reading c front
unwind_out c front h =
    let q = h.inner in let p = q.second in let v = p.inner in
    subst (λ y. ClauseSpelled grammar.reading y front) (sym v.is) (record { well = q.first.well; is = refl; fits = behind_fits h _ (sequence_fits q (marks q.value) _ q.first.fits (behind_fits p _ v.inner.fits)) })

pub unwind_into : (x : Expression) (n : Name) (front : List Token) → ClauseSpelled grammar.reading (tree.unwind x n) front → UnwindParts (tree.unwind x n) front
unwind_into x n front h =
    behind_of h.fits (λ g p. sequence_of x (marks x) _ p (λ f p. fitting h.well p) (λ g p. behind_of p (λ g p. record { value = n; is = refl; inner = fitting tt p })))
