use Rattle.std.proofs.Common.{◌∷◌}
use Rattle.pg_meaning.specs.Tokens.{continues_word, is_digit, run, characters}
use Rattle.pg_lex.proofs.Classed.{word_named, digits_named}
use Rattle.pg_lex.proofs.Runs.{ends, ends_there}
use Rattle.pg_lex.proofs.lexer.parameter.Goals as goal

pub before-word-requires : goal.before-word-requires
before-word-requires c = ends_there continues_word c.in-Some.first _ _ _ c.in-Some.ensures.parts c.after_word-rest.ensures

pub before-digits-requires : goal.before-digits-requires
before-digits-requires c = ends_there is_digit c.in-Some.first _ _ _ c.in-Some.ensures.parts c.after_digits-rest.ensures

pub returns-in-Letter : goal.returns-in-Letter
returns-in-Letter c =
    let e = ends continues_word c.in-Some.first _ _ _ c.in-Some.ensures.parts c.after_word-rest.ensures in
    word_named _ _ c.in-Some.first c.in-Some.ensures.parts _ _ c.in-Letter.ensures c.after_word-rest.ensures (c.before-word.ensures (c.in-Some.first ∷ run continues_word (characters c.in-Some.behind.now)) e)

pub returns-in-Digit : goal.returns-in-Digit
returns-in-Digit c =
    let e = ends is_digit c.in-Some.first _ _ _ c.in-Some.ensures.parts c.after_digits-rest.ensures in
    digits_named _ _ c.in-Some.first c.in-Some.ensures.parts _ _ c.in-Digit.ensures c.after_digits-rest.ensures (c.before-digits.ensures (c.in-Some.first ∷ run is_digit (characters c.in-Some.behind.now)) e)
