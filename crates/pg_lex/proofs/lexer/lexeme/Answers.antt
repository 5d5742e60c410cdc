use Rattle.std.proofs.Common.{subst, sym, ◌∷◌, Some, None}
use Rattle.pg_meaning.specs.Tokens.{Front, Lexeme, continues_word, run, characters}
use Rattle.pg_lex.specs.Scans.{Fronts}
use Rattle.pg_lex.specs.View.{lexeme_view}
use Rattle.pg_lex.proofs.Classed.{word_first}
use Rattle.pg_lex.proofs.Classes.{other_is}
use Rattle.pg_lex.proofs.Runs.{ends, ends_there}
use Rattle.pg_lex.proofs.lexer.lexeme.Goals as goal

pub before-word-requires : goal.before-word-requires
before-word-requires c = ends_there continues_word c.in-Some.first _ _ _ c.in-Some.ensures.parts c.after_word-rest.ensures

pub returns-in-Some-keyword_of : goal.returns-in-Some-keyword_of
returns-in-Some-keyword_of c =
    let e = ends continues_word c.in-Some.first _ _ _ c.in-Some.ensures.parts c.after_word-rest.ensures in
    word_first _ _ c.in-Some.first c.in-Some.ensures.parts _ _ (Some c.in-Some-keyword_of.keyword) c.in-Letter.ensures c.after_word-rest.ensures (c.before-word.ensures (c.in-Some.first ∷ run continues_word (characters c.in-Some.behind.now)) e) c.in-Some-keyword_of.ensures

pub returns-in-None : goal.returns-in-None
returns-in-None c =
    let e = ends continues_word c.in-Some.first _ _ _ c.in-Some.ensures.parts c.after_word-rest.ensures in
    word_first _ _ c.in-Some.first c.in-Some.ensures.parts _ _ None c.in-Letter.ensures c.after_word-rest.ensures (c.before-word.ensures (c.in-Some.first ∷ run continues_word (characters c.in-Some.behind.now)) e) c.in-None.ensures

pub returns-in-Other : goal.returns-in-Other
returns-in-Other c = subst (λ (o : Front Lexeme). Fronts lexeme_view o c.symbol.result) (sym (other_is _ _ c.in-Some.first c.in-Some.ensures.parts (sym c.in-Other.ensures))) c.symbol.ensures
