-- Atoms.
use Rattle.std.proofs.Common.{◌≡◌, ℕ, suc, ◌<◌, ◌≤◌, Bool, true, false, List, [], ◌∷◌, ◌++◌, length, Some, refl, sym, ap, subst, ◌∙◌, inl, inr, pos, arith}
use Rattle.pg_meaning.specs.declared.lexemes.Keyword.TheVariants as k
use Rattle.pg_meaning.specs.declared.lexemes.Symbol.TheVariants as s
use Rattle.pg_meaning.specs.Value as value
use Rattle.pg_meaning.specs.Value.{Value}
use Rattle.pg_meaning.specs.Tokens.{Lexeme, Token}
use Rattle.pg_meaning.specs.Tokens as lexeme
use Rattle.pg_meaning.specs.Tree.{Name, Expression, Expressions, Pairs}
use Rattle.pg_meaning.specs.Tree as tree
use Rattle.pg_meaning.specs.Grammar.{Mark, mark, key, sign, integer, string, variable_name, level, marks, list_marks, commas, IsSpelled, Accepts, Fit, IsWellFormed, AllWellFormed}
use Rattle.pg_meaning.specs.Grammar as grammar
use Rattle.pg_meaning.specs.Parse as parse
use Rattle.pg_meaning.specs.Parse.{Parser, branch, ◌>>=◌, ◌>>◌, ◌<$>◌, pure, sees_symbol, symbol, name_at, expressions_of, map_pairs, listed, call, case, word_atom, atom_by, plain_atom, atom}
use Rattle.pg_grammar.specs.Rules.{Exactly, Anything, Sound, Ends, Spelled, Exact, PairsAreExact}
use Rattle.pg_grammar.proofs.Generic.{branch_yes, branch_no, bind_some, same_some, some, chosen}
use Rattle.pg_grammar.proofs.Openings.{symbol_unbound}
use Rattle.pg_grammar.proofs.Chains.{chain_levels, any_spelled}
use Rattle.pg_grammar.proofs.Combinators.{Only, Sequence, Behind, behind_exact, sequence_exact, pure_exact, symbol_exact, no_tokens, sequence_fits, sequence_of, behind_fits, behind_of}
use Rattle.pg_grammar.proofs.Calls.{items_of, items_again, Bracketed, listed_exact, call_exact}
use Rattle.pg_grammar.proofs.Cases.{case_exact}
use Rattle.pg_grammar.proofs.Terminals.{symbol_takes, symbol_again, symbol_seen}

-- the name that a token gives
name_again : (at : ℕ) (q : Bool) (n : Name) → q ≡ n.quoted → at ≡ n.place → name_at at q n.text ≡ n
name_again at q n quoted place = rw (quoted, place) refl

abbrev Found : Token → List Token → Expression → List Token → Type 0
Found t ts a more = (front : List Token) × (t ∷ ts ≡ front ++ more) × Spelled 11 a front

-- of one token
alone : (t : Token) (x : Expression) → IsWellFormed x → 11 ≤ level x → Fit (t ∷ []) (marks x) → (ts : List Token) (a : Expression) (more : List Token) → some x ts ≡ some a more → Found t ts a more
alone t x well tight fits ts a more e =
    let g = same_some x a ts more e in
    let spelled : Spelled 11 x (t ∷ []) = record { well = well; tight = tight; fits = fits } in
    (t ∷ [], ap (λ (r : List Token). t ∷ r) g.1, subst (λ (y : Expression). Spelled 11 y (t ∷ [])) g.0 spelled)

module _ (limit : ℕ) (whole : Parser Expression) (exact : Exact limit 1 whole) (pairs_exact : PairsAreExact limit whole) where
  -- ---- sound

  word_sound : (t : Token) (w : List ℕ) → t.lexeme ≡ lexeme.word w → (ts : List Token) (a : Expression) (more : List Token) → word_atom whole (name_at t.start false w) ts ≡ Some (a, more) → Found t ts a more
  word_sound t w is ts a more e =
      let n : Name = name_at t.start false w in
      elim (chosen (sees_symbol s.OpenParenthesis ts) ((symbol s.OpenParenthesis >> call whole (name_at t.start false w)) ts) (some (tree.variable (name_at t.start false w)) ts) (some a more) e) [
        | inl h ↦
            let b = bind_some (symbol s.OpenParenthesis ts) (λ _. call whole (name_at t.start false w)) (a, more) h.1 in
            let u = symbol_takes s.OpenParenthesis ts b.1 b.0 b.2 in
            let c = (call_exact limit whole exact (name_at t.start false w)).sound b.1 a more b.3 in
            let h = c.2 in
            let made : Spelled 11 (tree.call (name_at t.start false w) h.star h.distinct h.xs) (t ∷ u.0 ∷ c.0) = record {
              well = (refl, h.has, h.well);
              tight = omega arith;
              fits = (record { spelled = is; starts = (refl, tt); finishes = tt }, (u.2, h.fits));
            } in
            (t ∷ u.0 ∷ c.0, ap (λ (r : List Token). t ∷ r) (u.1 ∙ ap (λ (r : List Token). u.0 ∷ r) c.1), subst (λ (y : Expression). Spelled 11 y (t ∷ u.0 ∷ c.0)) (sym h.is) made)
        | inr h ↦ alone t (tree.variable n) tt (omega arith) (record { spelled = is; starts = (refl, tt); finishes = tt }, tt) ts a more h.1
      ]

  list_sound : (t : Token) → t.lexeme ≡ lexeme.symbol s.OpenBracket → (ts : List Token) (a : Expression) (more : List Token) → ((λ xs. tree.list_literal (expressions_of xs)) <$> listed s.CloseBracket whole) ts ≡ Some (a, more) → Found t ts a more
  list_sound t is ts a more e =
      let b = bind_some (listed s.CloseBracket whole ts) (λ xs. pure (tree.list_literal (expressions_of xs))) (a, more) e in
      let g = same_some (tree.list_literal (expressions_of b.0)) a b.1 more b.3 in
      let one = (listed_exact limit whole exact).sound ts b.0 b.1 b.2 in
      let made : Spelled 11 (tree.list_literal (expressions_of b.0)) (t ∷ one.0) = record { well = one.2.well; tight = omega arith; fits = (record { spelled = is; starts = tt; finishes = tt }, one.2.fits) } in
      (t ∷ one.0, ap (λ (r : List Token). t ∷ r) (one.1 ∙ ap (λ (r : List Token). one.0 ++ r) g.1), subst (λ (y : Expression). Spelled 11 y (t ∷ one.0)) g.0 made)

  abbrev parenthesized : Parser Expression
  parenthesized = whole >>= λ x. symbol s.CloseParenthesis >> pure (tree.parentheses x)

  parenthesized_exact : Exactly limit parenthesized (Sequence (Spelled 1) (λ x. Behind (sign s.CloseParenthesis) (Only (tree.parentheses x)))) Anything
  parenthesized_exact = sequence_exact exact (λ x. behind_exact (symbol_exact s.CloseParenthesis) (pure_exact (tree.parentheses x))) (λ x a y more h ends. rw (h.whole, h.accepts.spelled) (omega arith))

  parentheses_sound : (t : Token) → t.lexeme ≡ lexeme.symbol s.OpenParenthesis → (ts : List Token) (a : Expression) (more : List Token) → parenthesized ts ≡ Some (a, more) → Found t ts a more
  parentheses_sound t is ts a more e =
      let r = parenthesized_exact.sound ts a more e in
      let h = r.2 in let c = h.second in
      let made : Spelled 11 (tree.parentheses h.value) (t ∷ r.0) = record {
        well = h.first.well;
        tight = omega arith;
        fits = (record { spelled = is; starts = tt; finishes = tt }, sequence_fits h (marks h.value) (sign s.CloseParenthesis ∷ []) h.first.fits (behind_fits c [] (rw c.inner.1 tt)));
      } in
      (t ∷ r.0, ap (λ (l : List Token). t ∷ l) r.1, subst (λ (y : Expression). Spelled 11 y (t ∷ r.0)) (sym c.inner.0) made)

  case_found : (t : Token) (w : List ℕ) → t.lexeme ≡ lexeme.keyword k.Case w → (ts : List Token) (a : Expression) (more : List Token) → case whole ts ≡ Some (a, more) → Found t ts a more
  case_found t w is ts a more e =
      let c = (case_exact limit whole exact).sound ts a more e in
      let h = c.2 in
      let made : Spelled 11 (tree.case h.subject h.whens h.otherwise) (t ∷ c.0) = record { well = h.well; tight = omega arith; fits = (record { spelled = (w, is); starts = tt; finishes = tt }, h.fits) } in
      (t ∷ c.0, ap (λ (r : List Token). t ∷ r) c.1, subst (λ (y : Expression). Spelled 11 y (t ∷ c.0)) (sym h.is) made)

  plain_sound : (t : Token) (l : Lexeme) → t.lexeme ≡ l → (ts : List Token) (a : Expression) (more : List Token) → atom_by whole t.start l ts ≡ Some (a, more) → Found t ts a more
  plain_sound t (lexeme.integer n) is ts a more e = alone t (tree.literal (value.integer (pos n))) tt (omega arith) (record { spelled = is; starts = tt; finishes = tt }, tt) ts a more e
  plain_sound t (lexeme.string w) is ts a more e = alone t (tree.literal (value.text w)) tt (omega arith) (record { spelled = is; starts = tt; finishes = tt }, tt) ts a more e
  plain_sound t (lexeme.keyword k.True w) is ts a more e = alone t (tree.literal (value.boolean true)) tt (omega arith) (record { spelled = (w, is); starts = tt; finishes = tt }, tt) ts a more e
  plain_sound t (lexeme.keyword k.False w) is ts a more e = alone t (tree.literal (value.boolean false)) tt (omega arith) (record { spelled = (w, is); starts = tt; finishes = tt }, tt) ts a more e
  plain_sound t (lexeme.keyword k.Null w) is ts a more e = alone t (tree.literal value.null) tt (omega arith) (record { spelled = (w, is); starts = tt; finishes = tt }, tt) ts a more e
  plain_sound t (lexeme.keyword k.Case w) is ts a more e = case_found t w is ts a more e
  plain_sound t (lexeme.parameter q w) is ts a more e = alone t (tree.parameter (name_at t.start q w)) tt (omega arith) (record { spelled = is; starts = (refl, tt); finishes = tt }, tt) ts a more e
  plain_sound t (lexeme.quoted_name w) is ts a more e = alone t (tree.variable (name_at t.start true w)) tt (omega arith) (record { spelled = is; starts = (refl, tt); finishes = tt }, tt) ts a more e
  plain_sound t (lexeme.word w) is ts a more e = word_sound t w is ts a more e
  plain_sound t (lexeme.symbol s.OpenBracket) is ts a more e = list_sound t is ts a more e
  plain_sound t (lexeme.symbol s.OpenParenthesis) is ts a more e = parentheses_sound t is ts a more e
  plain_sound t _ is ts a more e = absurd cc

  abbrev map_atom : Parser Expression
  map_atom = tree.map_literal <$> map_pairs whole

  map_sound : Sound map_atom (Spelled 11)
  map_sound ts a more e =
      let b = bind_some (map_pairs whole ts) (λ ps. pure (tree.map_literal ps)) (a, more) e in
      let g = same_some (tree.map_literal b.0) a b.1 more b.3 in
      let one = pairs_exact.sound ts b.0 b.1 b.2 in
      let made : Spelled 11 (tree.map_literal b.0) one.0 = record { well = one.2.well; tight = omega arith; fits = one.2.fits } in
      (one.0, one.1 ∙ ap (λ (r : List Token). one.0 ++ r) g.1, subst (λ (y : Expression). Spelled 11 y one.0) g.0 made)

  atom_sound : Sound (atom whole) (Spelled 11)
  unfolding atom
  atom_sound ts a more e =
      elim (chosen (sees_symbol s.OpenBrace ts) (map_atom ts) (plain_atom whole ts) (some a more) e) [
        | inl h ↦ map_sound ts a more h.1
        | inr h ↦ by ts h.1
      ]
    where
      by : (ts : List Token) → plain_atom whole ts ≡ Some (a, more) → (front : List Token) × (ts ≡ front ++ more) × Spelled 11 a front
      by [] e = absurd cc
      by (t ∷ ts) e = plain_sound t t.lexeme refl ts a more e

  -- ---- complete

  to_plain : (t : Token) (l : Lexeme) (more : List Token) (x : Expression) (rest : List Token) → t.lexeme ≡ l → sees_symbol s.OpenBrace (record { lexeme = l; start = 0; finish = 0 } ∷ []) ≡ false → atom_by whole t.start l more ≡ Some (x, rest) → atom whole (t ∷ more) ≡ Some (x, rest)
  unfolding atom
  to_plain t l more x rest is other e =
      branch_no (sees_symbol s.OpenBrace) map_atom (plain_atom whole) (t ∷ more) (rw is other)
      ∙ rw is e

  one_token : (m : Mark) (front more : List Token) (x : Expression) → Fit front (m ∷ []) → ((t : Token) → Accepts m t → atom whole (t ∷ more) ≡ Some (x, more)) → atom whole (front ++ more) ≡ Some (x, more)
  one_token m [] more x fits by = absurd fits
  one_token m (t ∷ []) more x fits by = by t fits.0
  one_token m (t ∷ u ∷ front) more x fits by = absurd fits.1

  variable_complete : (t : Token) (q : Bool) (w : List ℕ) (more : List Token) → IsSpelled (variable_name q w) t.lexeme → Ends 11 more → atom whole (t ∷ more) ≡ Some (tree.variable (name_at t.start q w), more)
  variable_complete t true w more h ends = to_plain t (lexeme.quoted_name w) more (tree.variable (name_at t.start true w)) more h refl refl
  variable_complete t false w more h ends =
      to_plain t (lexeme.word w) more (tree.variable (name_at t.start false w)) more h refl
      (branch_no (sees_symbol s.OpenParenthesis) (symbol s.OpenParenthesis >> call whole (name_at t.start false w)) (pure (tree.variable (name_at t.start false w))) more (symbol_unbound s.OpenParenthesis more ends))

  list_complete : (xs : Expressions) (t : Token) (front more : List Token) → t.lexeme ≡ lexeme.symbol s.OpenBracket → AllWellFormed xs → Fit front (commas (list_marks xs) ++ sign s.CloseBracket ∷ []) → length (front ++ more) < limit → atom whole (t ∷ (front ++ more)) ≡ Some (tree.list_literal xs, more)
  unfolding parse.same_symbol
  list_complete xs t front more is well fits less =
      let again = items_again xs in
      let spelled : Bracketed (items_of xs) front = record { well = rw again well; fits = rw again fits } in
      let one : listed s.CloseBracket whole (front ++ more) ≡ Some (items_of xs, more) = (listed_exact limit whole exact).complete (items_of xs) front more spelled tt less in
      to_plain t (lexeme.symbol s.OpenBracket) (front ++ more) (tree.list_literal xs) more is refl (rw one (ap (λ (ys : Expressions). some (tree.list_literal ys) more) again))

  parentheses_complete : (x : Expression) (t : Token) (front more : List Token) → t.lexeme ≡ lexeme.symbol s.OpenParenthesis → IsWellFormed x → Fit front (marks x ++ sign s.CloseParenthesis ∷ []) → length (front ++ more) < limit → atom whole (t ∷ (front ++ more)) ≡ Some (tree.parentheses x, more)
  unfolding parse.same_symbol
  parentheses_complete x t front more is well fits less =
      let one = parenthesized_exact.complete (tree.parentheses x) front more (sequence_of x (marks x) (sign s.CloseParenthesis ∷ []) fits (λ f p. any_spelled x f well p) (λ g p. behind_of p (λ g p. (refl, no_tokens g p)))) tt less in
      to_plain t (lexeme.symbol s.OpenParenthesis) (front ++ more) (tree.parentheses x) more is refl one

  call_atom : (f : Name) (t u : Token) (more rest : List Token) (x : Expression) → Accepts (grammar.at_place f.place (grammar.function_name f.text)) t → f.quoted ≡ false → Accepts (sign s.OpenParenthesis) u → call whole f more ≡ Some (x, rest) → atom whole (t ∷ u ∷ more) ≡ Some (x, rest)
  call_atom f t u more rest x h unquoted opening one =
      let n : name_at t.start false f.text ≡ f = name_again t.start false f (sym unquoted) h.starts.0 in
      to_plain t (lexeme.word f.text) (u ∷ more) x rest h.spelled refl
      (branch_yes (sees_symbol s.OpenParenthesis) (symbol s.OpenParenthesis >> call whole (name_at t.start false f.text)) (pure (tree.variable (name_at t.start false f.text))) (u ∷ more) (symbol_seen s.OpenParenthesis u more opening)
      ∙ rw (symbol_again s.OpenParenthesis u more opening) (ap (λ (g : Name). call whole g more) n ∙ one))

  atom_complete : (a : Expression) (front more : List Token) → IsWellFormed a → 11 ≤ level a → Fit front (marks a) → Ends 11 more → length (front ++ more) < suc limit → atom whole (front ++ more) ≡ Some (a, more)
  unfolding atom
  atom_complete (tree.literal value.null) front more well tight fits ends less = one_token (key k.Null) front more _ fits (λ t h. to_plain t (lexeme.keyword k.Null h.spelled.0) more _ more h.spelled.1 refl refl)
  atom_complete (tree.literal (value.boolean true)) front more well tight fits ends less = one_token (key k.True) front more _ fits (λ t h. to_plain t (lexeme.keyword k.True h.spelled.0) more _ more h.spelled.1 refl refl)
  atom_complete (tree.literal (value.boolean false)) front more well tight fits ends less = one_token (key k.False) front more _ fits (λ t h. to_plain t (lexeme.keyword k.False h.spelled.0) more _ more h.spelled.1 refl refl)
  atom_complete (tree.literal (value.integer (pos n))) front more well tight fits ends less = one_token (mark (integer n)) front more _ fits (λ t h. to_plain t (lexeme.integer n) more _ more h.spelled refl refl)
  atom_complete (tree.literal (value.text w)) front more well tight fits ends less = one_token (mark (string w)) front more _ fits (λ t h. to_plain t (lexeme.string w) more _ more h.spelled refl refl)
  atom_complete (tree.literal _) front more well tight fits ends less = absurd well
  atom_complete (tree.parameter n) front more well tight fits ends less =
      one_token (grammar.parameter_mark n) front more _ fits (λ t h. to_plain t (lexeme.parameter n.quoted n.text) more _ more h.spelled refl (ap (λ (m : Name). some (tree.parameter m) more) (name_again t.start n.quoted n refl h.starts.0)))
  atom_complete (tree.variable n) front more well tight fits ends less =
      one_token (grammar.var n) front more _ fits (λ t h. variable_complete t n.quoted n.text more h.spelled ends ∙ ap (λ (m : Name). some (tree.variable m) more) (name_again t.start n.quoted n refl h.starts.0))
  atom_complete (tree.list_literal xs) [] more well tight fits ends less = absurd fits
  atom_complete (tree.list_literal xs) (t ∷ front) more well tight fits ends less = list_complete xs t front more fits.0.spelled well fits.1 (omega arith)
  atom_complete (tree.map_literal ps) [] more well tight fits ends less = absurd fits
  atom_complete (tree.map_literal ps) (t ∷ front) more well tight fits ends less =
      branch_yes (sees_symbol s.OpenBrace) map_atom (plain_atom whole) (t ∷ (front ++ more)) (symbol_seen s.OpenBrace t (front ++ more) fits.0)
      ∙ rw (pairs_exact.complete ps (t ∷ front) more (record { well = well; fits = fits }) tt (omega arith)) refl
  atom_complete (tree.parentheses x) [] more well tight fits ends less = absurd fits
  atom_complete (tree.parentheses x) (t ∷ front) more well tight fits ends less = parentheses_complete x t front more fits.0.spelled well fits.1 (omega arith)
  atom_complete (tree.call n star distinct xs) [] more well tight fits ends less = absurd fits
  atom_complete (tree.call n star distinct xs) (t ∷ []) more well tight fits ends less = absurd fits.1
  atom_complete (tree.call n star distinct xs) (t ∷ u ∷ front) more well tight fits ends less =
      call_atom n t u (front ++ more) more (tree.call n star distinct xs) fits.0 well.0 fits.1.0 ((call_exact limit whole exact n).complete (tree.call n star distinct xs) front more (record { star = star; distinct = distinct; xs = xs; is = refl; has = well.1; well = well.2; fits = fits.1.1 }) tt (omega arith))
  atom_complete (tree.case subject whens otherwise) [] more well tight fits ends less = absurd fits
  atom_complete (tree.case subject whens otherwise) (t ∷ front) more well tight fits ends less =
      to_plain t (lexeme.keyword k.Case fits.0.spelled.0) (front ++ more) (tree.case subject whens otherwise) more fits.0.spelled.1 refl ((case_exact limit whole exact).complete (tree.case subject whens otherwise) front more (record { subject = subject; whens = whens; otherwise = otherwise; is = refl; well = well; fits = fits.1 }) tt (omega arith))
  atom_complete (tree.chain x os) front more well tight fits ends less = absurd (omega (arith, chain_levels os))
  atom_complete (tree.negation n x) front more well tight fits ends less = absurd (omega arith)
  atom_complete (tree.signs bs x) front more well tight fits ends less = absurd (omega arith)
  atom_complete (tree.tests x ts) front more well tight fits ends less = absurd (omega arith)
  atom_complete (tree.suffixes x xs ls) front more well tight fits ends less = absurd (omega arith)

  pub atom_exact : Exact (suc limit) 11 (atom whole)
  atom_exact = record { sound = atom_sound; complete = λ a front more h ends less. atom_complete a front more h.well h.tight h.fits ends less }
