use Rattle.std.proofs.Common.{refl, sym, ap, Some, None, ◌∙◌, ◌∷◌}
use Rattle.pg_meaning.specs.Tokens.{characters, is_digit, run, Starts, utf8}
use Rattle.pg_lex.specs.Scans.{natural_of}
use Rattle.pg_lex.proofs.Runs.{ends, ends_there, digits_is}
use Rattle.pg_lex.proofs.Values.{integer_is, integer_none}
use Rattle.pg_lex.proofs.numbers.integer.Goals as goal

pub before-digits-requires : goal.before-digits-requires
before-digits-requires c = ends_there is_digit c.in_ok-_first._first _ _ _ c.in_ok-_first.ensures.parts c.after_digits-rest.ensures

pub returns : goal.returns
returns c =
    let f = c.in_ok-_first in
    let e = ends is_digit f._first _ _ _ f.ensures.parts c.after_digits-rest.ensures in
    let d = digits_is f._first _ _ _ _ f.ensures.parts (ap (Starts is_digit) (sym f.ensures.parts) ∙ c.requires) c.after_digits-rest.ensures (c.before-digits.ensures (f._first ∷ run is_digit (characters f.behind.now)) e) in
    integer_is _ _ _ (Some c.in_ok-numeral.field-0.value) d (sym c.word_follows.ensures ∙ c.if-word_follows.false) (c.in_ok-numeral.ensures ∙ ap natural_of c.as_bytes.ensures.value)

pub returns-then-word_follows : goal.returns-then-word_follows
returns-then-word_follows c =
    let f = c.in_ok-_first in
    let d = digits_is f._first _ _ _ (utf8 (f._first ∷ run is_digit (characters f.behind.now))) f.ensures.parts (ap (Starts is_digit) (sym f.ensures.parts) ∙ c.requires) c.after_digits-rest.ensures refl in
    integer_none _ _ _ d (sym c.word_follows.ensures ∙ c.if-word_follows.true)

pub returns-in_err-numeral : goal.returns-in_err-numeral
returns-in_err-numeral c =
    let f = c.in_ok-_first in
    let e = ends is_digit f._first _ _ _ f.ensures.parts c.after_digits-rest.ensures in
    let d = digits_is f._first _ _ _ _ f.ensures.parts (ap (Starts is_digit) (sym f.ensures.parts) ∙ c.requires) c.after_digits-rest.ensures (c.before-digits.ensures (f._first ∷ run is_digit (characters f.behind.now)) e) in
    rw c.from_residual-in_err-numeral.ensures (integer_is _ _ _ None d (sym c.word_follows.ensures ∙ c.if-word_follows.false) (c.in_err-numeral.ensures ∙ ap natural_of c.as_bytes.ensures.value))
