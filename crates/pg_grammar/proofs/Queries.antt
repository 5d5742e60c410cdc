-- Whole queries: what is read is spelled so, and none is missed.
use Rattle.std.proofs.Common.{◌≡◌, ℕ, ◌+◌, Bool, true, false, List, [], ◌∷◌, ◌++◌, length, Some, None, refl, sym, ap, subst, ◌∙◌, arith}
use Rattle.std.proofs.lemmas.List.{append-nil}
use Rattle.std.specs.List.{AllByRecursion}
use Rattle.std.specs.Str.{IsUtf8}
use Rattle.pg_meaning.specs.declared.lexemes.Symbol.TheVariants as s
use Rattle.pg_meaning.specs.ListsLaws.{all_weaker, all_both}
use Rattle.pg_meaning.specs.Tokens.{Token}
use Rattle.pg_meaning.specs.Tree.{Clause, Query}
use Rattle.pg_meaning.specs.Grammar.{sign, flag, query_marks, Fit, IsClause, HasSource, items_of, Reads}
use Rattle.pg_meaning.specs.Parse as parse
use Rattle.pg_meaning.specs.Parse.{Parser, Outcome, ◌>>=◌, ◌>>◌, pure, eat_symbol, done, parts, query, query_of, read, ReadsExactly}
use Rattle.pg_grammar.specs.Rules.{ExpressionsAreExact, ExpressionsOpen, ReadingClausesAreExact, UpdatingClausesAreExact}
use Rattle.pg_grammar.proofs.Combinators.{fitting, eat_symbol_exact}
use Rattle.pg_grammar.proofs.Fits.{fit_append, fit_split, all_front}
use Rattle.pg_grammar.proofs.Generic.{some, same_some, bind_some}
use Rattle.pg_grammar.proofs.Items.{IsCut}
use Rattle.pg_grammar.proofs.Parts.{all_marks, AfterQuery, parts_exact}
use Rattle.pg_grammar.proofs.ProjectionClauses.{IsTextClause}
use Rattle.pg_grammar.proofs.Sources.{cut_source, marks_between, clauses_cut}
use Rattle.pg_grammar.proofs.Spans.{Placed, tokens_placed, text_is_utf8}

-- ---- behind the clauses

done_is : (ts more : List Token) (u : Unit {0}) → done ts ≡ Some (u, more) → (ts ≡ []) × (more ≡ [])
done_is [] more u e = let last = same_some tt u [] more e in (refl, sym last.1)
done_is (t ∷ ts) more u e = absurd cc

semicolon_after : (g : List Token) (b : Bool) → Fit g (flag b (sign s.Semicolon)) → AfterQuery g
semicolon_after [] b fits = record { none = refl; ends = refl }
semicolon_after (t ∷ g) true fits = record { none = rw fits.0.spelled refl; ends = rw fits.0.spelled refl }
semicolon_after (t ∷ g) false fits = absurd fits

-- ---- the whole

abbrev query_with : List Clause → Bool → Query
query_with cs b = record { clauses = cs; semicolon = b }

abbrev finished : List Clause → Parser Query
finished cs = eat_symbol s.Semicolon >>= λ b. done >> pure (query_with cs b)

module _ (text : List ℕ) (utf8 : IsUtf8 text) (exact : ExpressionsAreExact) (opened : ExpressionsOpen) (readings : ReadingClausesAreExact) (updatings : UpdatingClausesAreExact) where
  query_sound : (n m : ℕ) (ts : List Token) (q : Query) (more : List Token) → query text (parse.expr n) m ts ≡ Some (q, more) → Reads text ts q
  unfolding query
  query_sound n m ts q more e =
      let a = bind_some (parts text (parse.expr n) m ts) finished (q, more) e in
      let b = bind_some (eat_symbol s.Semicolon a.1) (λ b. done >> pure (query_with a.0 b)) (q, more) a.3 in
      let d = bind_some (done b.1) (λ u. pure (query_with a.0 b.0)) (q, more) b.3 in
      let left = done_is b.1 d.1 d.0 d.2 in
      let last = same_some (query_with a.0 b.0) q d.1 more d.3 in
      let one = (parts_exact text n exact opened readings updatings m 0 (omega arith) (omega arith)).sound ts a.0 a.1 a.2 in
      let two = (eat_symbol_exact {n = 0} s.Semicolon).sound a.1 b.0 b.1 b.2 in
      let whole : one.0 ++ two.0 ≡ ts = ap (λ (l : List Token). one.0 ++ l) (sym (append-nil two.0) ∙ ap (λ (l : List Token). two.0 ++ l) (sym left.0) ∙ sym two.1) ∙ sym one.1 in
      let all = one.2.well.all in
      let made : Reads text ts (query_with a.0 b.0) = record {
        fit = subst (λ (l : List Token). Fit l (query_marks (query_with a.0 b.0))) whole (fit_append one.0 two.0 (all_marks a.0) (flag b.0 (sign s.Semicolon)) one.2.fits two.2.fits);
        sources = all_weaker (IsTextClause text) (λ c. AllByRecursion (HasSource text) (items_of c)) (λ c h. all_weaker (IsCut text) (HasSource text) (cut_source text) (items_of c) h.1) a.0 all;
        well_formed = (all_weaker (IsTextClause text) IsClause (λ c h. h.0) a.0 all, one.2.well.parts);
      } in
      subst (Reads text ts) last.0 made

  query_complete : (ts : List Token) (q : Query) → AllByRecursion (Placed text) ts → Reads text ts q → query text (parse.expr (length ts)) (length ts) ts ≡ Some (q, [])
  unfolding query
  query_complete ts q placed reads =
      let n = length ts in
      let ms = flag q.semicolon (sign s.Semicolon) in
      let between = all_front _ (all_marks q.clauses) ms (marks_between text utf8 opened ts (query_marks q) reads.fit placed) in
      let all = all_both IsClause (λ c. AllByRecursion (IsCut text) (items_of c)) q.clauses reads.well_formed.0 (clauses_cut text utf8 opened q.clauses reads.well_formed.0 between reads.sources) in
      let parts_taken = fit_split ts (all_marks q.clauses) ms reads.fit in
      let f = parts_taken.0 in let g = parts_taken.1 in
      let one = (parts_exact text n exact opened readings updatings n n (omega arith) (omega arith)).complete q.clauses f g (fitting (record { all = all; parts = reads.well_formed.1 }) parts_taken.3) (semicolon_after g q.semicolon parts_taken.4) (omega (arith, ap length parts_taken.2)) in
      let here : parts text (parse.expr n) n ts ≡ Some (q.clauses, g) = ap (parts text (parse.expr n) n) parts_taken.2 ∙ one in
      let two = (eat_symbol_exact {n = length g + 1} s.Semicolon).complete q.semicolon g [] (fitting tt parts_taken.4) refl (omega (arith, ap length (append-nil g))) in
      let there : eat_symbol s.Semicolon g ≡ Some (q.semicolon, []) = ap (eat_symbol s.Semicolon) (sym (append-nil g)) ∙ two in
      rw (here, there) refl

  read_sound : (ts : List Token) (q : Query) → query_of text ts ≡ Some q → Reads text ts q
  unfolding query_of
  read_sound ts q e = at (query text (parse.expr (length ts)) (length ts) ts) refl e
    where
      at : (o : Outcome Query) → query text (parse.expr (length ts)) (length ts) ts ≡ o → read o ≡ Some q → Reads text ts q
      at None h e = absurd cc
      at (Some p) h e = let same : p.0 ≡ q = cc in query_sound (length ts) (length ts) ts q p.1 (h ∙ ap (λ (r : Query). some r p.1) same)

  pub read_complete : (ts : List Token) (q : Query) → AllByRecursion (Placed text) ts → Reads text ts q → query_of text ts ≡ Some q
  unfolding query_of
  read_complete ts q tokens reads = ap read (query_complete ts q tokens reads)

pub reads_exactly : ExpressionsAreExact → ExpressionsOpen → ReadingClausesAreExact → UpdatingClausesAreExact → ReadsExactly
reads_exactly exact opened readings updatings text tokens q lexes =
    let utf8 = text_is_utf8 text tokens lexes in
    (read_complete text utf8 exact opened readings updatings tokens q (tokens_placed text tokens lexes), read_sound text utf8 exact opened readings updatings tokens q)
