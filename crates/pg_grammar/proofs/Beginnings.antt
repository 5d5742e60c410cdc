-- The kind of a clause shows in its first token.
use Rattle.std.proofs.Common.{◌≡◌, Bool, true, false, List, [], ◌∷◌, ◌++◌, Option, Some, None, refl}
use Rattle.std.specs.Prelude.{◌||◌}
use Rattle.pg_meaning.specs.declared.lexemes.Keyword.TheVariants as k
use Rattle.pg_meaning.specs.Tokens.{Lexeme, Token}
use Rattle.pg_meaning.specs.Tokens as lexeme
use Rattle.pg_meaning.specs.Tree.{Clause}
use Rattle.pg_meaning.specs.Tree as tree
use Rattle.pg_meaning.specs.Grammar.{Mark, clause_marks, IsSpelled, Fit, Kind, reading, updating, passing, returning, kind_of}
use Rattle.pg_meaning.specs.Parse as parse
use Rattle.pg_meaning.specs.Parse.{is_keyword, sees_keyword, begins_reading, begins_updating}
use Rattle.pg_grammar.specs.Rules.{begins_clause, ClauseEnds}

-- the kind of the clause that a lexeme begins
abbrev pub kind_at : Lexeme → Option Kind
kind_at (lexeme.keyword k.Optional w) = Some reading
kind_at (lexeme.keyword k.Match w) = Some reading
kind_at (lexeme.keyword k.Unwind w) = Some reading
kind_at (lexeme.keyword k.Create w) = Some updating
kind_at (lexeme.keyword k.Merge w) = Some updating
kind_at (lexeme.keyword k.Set w) = Some updating
kind_at (lexeme.keyword k.Remove w) = Some updating
kind_at (lexeme.keyword k.Detach w) = Some updating
kind_at (lexeme.keyword k.Delete w) = Some updating
kind_at (lexeme.keyword k.With w) = Some passing
kind_at (lexeme.keyword k.Return w) = Some returning
kind_at l = None

abbrev pub next_kind : List Token → Option Kind
next_kind [] = None
next_kind (t ∷ ts) = kind_at t.lexeme

abbrev pub is_kind : Kind → Option Kind → Bool
is_kind reading (Some reading) = true
is_kind updating (Some updating) = true
is_kind passing (Some passing) = true
is_kind returning (Some returning) = true
is_kind a b = false

pub same_kind : (a : Kind) → is_kind a (Some a) ≡ true
same_kind reading = refl
same_kind updating = refl
same_kind passing = refl
same_kind returning = refl

lexeme_reads : (l : Lexeme) → is_keyword k.Optional l || is_keyword k.Match l || is_keyword k.Unwind l ≡ is_kind reading (kind_at l)
unfolding parse.same_keyword
lexeme_reads (lexeme.keyword k.Optional w) = refl
lexeme_reads _ = refl

lexeme_updates : (l : Lexeme) → is_keyword k.Create l || is_keyword k.Merge l || is_keyword k.Set l || is_keyword k.Remove l || is_keyword k.Detach l || is_keyword k.Delete l ≡ is_kind updating (kind_at l)
unfolding parse.same_keyword
lexeme_updates (lexeme.keyword k.Optional w) = refl
lexeme_updates _ = refl

lexeme_passes : (l : Lexeme) → is_keyword k.With l ≡ is_kind passing (kind_at l)
unfolding parse.same_keyword
lexeme_passes (lexeme.keyword k.Optional w) = refl
lexeme_passes _ = refl

lexeme_returns : (l : Lexeme) → is_keyword k.Return l ≡ is_kind returning (kind_at l)
unfolding parse.same_keyword
lexeme_returns (lexeme.keyword k.Optional w) = refl
lexeme_returns _ = refl

lexeme_begins : (a : Kind) (l : Lexeme) → is_kind a (kind_at l) ≡ true → begins_clause l ≡ true
lexeme_begins reading (lexeme.keyword k.Optional w) h = refl
lexeme_begins updating (lexeme.keyword k.Optional w) h = refl
lexeme_begins passing (lexeme.keyword k.Optional w) h = refl
lexeme_begins returning (lexeme.keyword k.Optional w) h = refl
lexeme_begins _ _ h = cc

pub reading_is : (ts : List Token) → begins_reading ts ≡ is_kind reading (next_kind ts)
reading_is [] = refl
reading_is (t ∷ ts) = lexeme_reads t.lexeme

pub updating_is : (ts : List Token) → begins_updating ts ≡ is_kind updating (next_kind ts)
updating_is [] = refl
updating_is (t ∷ ts) = lexeme_updates t.lexeme

pub passing_is : (ts : List Token) → sees_keyword k.With ts ≡ is_kind passing (next_kind ts)
passing_is [] = refl
passing_is (t ∷ ts) = lexeme_passes t.lexeme

pub returning_is : (ts : List Token) → sees_keyword k.Return ts ≡ is_kind returning (next_kind ts)
returning_is [] = refl
returning_is (t ∷ ts) = lexeme_returns t.lexeme

pub kind_ends : (a : Kind) (ts : List Token) → is_kind a (next_kind ts) ≡ true → ClauseEnds ts
kind_ends a [] h = refl
kind_ends a (t ∷ ts) h = lexeme_begins a t.lexeme h

-- the first token of a clause
first_kind : {a : Kind} (m : Mark) (ms : List Mark) (front more : List Token) → Fit front (m ∷ ms) → ((l : Lexeme) → IsSpelled m.what l → kind_at l ≡ Some a) → next_kind (front ++ more) ≡ Some a
first_kind m ms [] more fits is = absurd fits
first_kind m ms (t ∷ front) more fits is = is t.lexeme fits.0.spelled

pub clause_first : (c : Clause) (ms : List Mark) (front more : List Token) → Fit front (clause_marks c ++ ms) → next_kind (front ++ more) ≡ Some (kind_of c)
clause_first (tree.match_paths true ps x) ms front more fits = first_kind _ _ front more fits (λ l h. rw h.1 refl)
clause_first (tree.match_paths false ps x) ms front more fits = first_kind _ _ front more fits (λ l h. rw h.1 refl)
clause_first (tree.unwind x n) ms front more fits = first_kind _ _ front more fits (λ l h. rw h.1 refl)
clause_first (tree.create ps) ms front more fits = first_kind _ _ front more fits (λ l h. rw h.1 refl)
clause_first (tree.merge p os) ms front more fits = first_kind _ _ front more fits (λ l h. rw h.1 refl)
clause_first (tree.set_items xs) ms front more fits = first_kind _ _ front more fits (λ l h. rw h.1 refl)
clause_first (tree.remove_items xs) ms front more fits = first_kind _ _ front more fits (λ l h. rw h.1 refl)
clause_first (tree.delete true xs) ms front more fits = first_kind _ _ front more fits (λ l h. rw h.1 refl)
clause_first (tree.delete false xs) ms front more fits = first_kind _ _ front more fits (λ l h. rw h.1 refl)
clause_first (tree.with_rows p x) ms front more fits = first_kind _ _ front more fits (λ l h. rw h.1 refl)
clause_first (tree.return_rows p) ms front more fits = first_kind _ _ front more fits (λ l h. rw h.1 refl)
