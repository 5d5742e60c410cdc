use Rattle.std.proofs.Common.{◌+◌, ◌*◌, ◌∙◌, arith}
use Rattle.pg_meaning.specs.Tokens.{characters}
use Rattle.pg_lex.proofs.Hexadecimals.{no_first, no_second, no_third, no_fourth, all_four, is_character, no_character}
use Rattle.pg_lex.proofs.strings.coded.Goals as goal

pub returns-in_default-clause-front : goal.returns-in_default-clause-front
returns-in_default-clause-front c = no_first (characters c.args.text.now) c.in_default.ensures.digit

pub returns-in_default-hexadecimal-clause-front : goal.returns-in_default-hexadecimal-clause-front
returns-in_default-hexadecimal-clause-front c = no_second (characters c.args.text.now) c.in-Some.a (characters c.in-Some.text.now) c.in-Some.ensures.digit c.in_default-hexadecimal.ensures.digit

pub returns-in_default-hexadecimal-2-clause-front : goal.returns-in_default-hexadecimal-2-clause-front
returns-in_default-hexadecimal-2-clause-front c = no_third (characters c.args.text.now) c.in-Some.a (characters c.in-Some.text.now) c.in-Some.ensures.digit c.in-Some-hexadecimal.b (characters c.in-Some-hexadecimal.text.now) c.in-Some-hexadecimal.ensures.digit c.in_default-hexadecimal-2.ensures.digit

pub returns-in_default-hexadecimal-3-clause-front : goal.returns-in_default-hexadecimal-3-clause-front
returns-in_default-hexadecimal-3-clause-front c = no_fourth (characters c.args.text.now) c.in-Some.a (characters c.in-Some.text.now) c.in-Some.ensures.digit c.in-Some-hexadecimal.b (characters c.in-Some-hexadecimal.text.now) c.in-Some-hexadecimal.ensures.digit c.in-Some-hexadecimal-2.c (characters c.in-Some-hexadecimal-2.text.now) c.in-Some-hexadecimal-2.ensures.digit c.in_default-hexadecimal-3.ensures.digit

pub overflow_mul-code : goal.overflow_mul-code
overflow_mul-code c = omega (arith, c.in-Some.ensures.small)

pub overflow_add-code : goal.overflow_add-code
overflow_add-code c = omega (arith, c.in-Some.ensures.small, c.in-Some-hexadecimal.ensures.small)

pub overflow_mul-code-2 : goal.overflow_mul-code-2
overflow_mul-code-2 c = omega (arith, c.in-Some.ensures.small, c.in-Some-hexadecimal.ensures.small)

pub overflow_add-code-2 : goal.overflow_add-code-2
overflow_add-code-2 c = omega (arith, c.in-Some.ensures.small, c.in-Some-hexadecimal.ensures.small, c.in-Some-hexadecimal-2.ensures.small)

pub overflow_mul-code-3 : goal.overflow_mul-code-3
overflow_mul-code-3 c = omega (arith, c.in-Some.ensures.small, c.in-Some-hexadecimal.ensures.small, c.in-Some-hexadecimal-2.ensures.small)

pub overflow_add-code-3 : goal.overflow_add-code-3
overflow_add-code-3 c = omega (arith, c.in-Some.ensures.small, c.in-Some-hexadecimal.ensures.small, c.in-Some-hexadecimal-2.ensures.small, c.in-Some-hexadecimal-3.ensures.small)

pub returns-clause-front : goal.returns-clause-front
returns-clause-front c =
    let p = c.in-Some in
    let q = c.in-Some-hexadecimal in
    let r = c.in-Some-hexadecimal-2 in
    let s = c.in-Some-hexadecimal-3 in
    let rest = characters s.rest.now in
    let x = c.in_ok-from_u32 in
    all_four (characters c.args.text.now) p.a (characters p.text.now) p.ensures.digit q.b (characters q.text.now) q.ensures.digit r.c (characters r.text.now) r.ensures.digit s.d rest s.ensures.digit
    ∙ is_character (((p.a * 16 + q.b) * 16 + r.c) * 16 + s.d) rest x.field-0 x.ensures.cases x.ensures.value.1

pub returns-in_err-from_u32-clause-front : goal.returns-in_err-from_u32-clause-front
returns-in_err-from_u32-clause-front c =
    let p = c.in-Some in
    let q = c.in-Some-hexadecimal in
    let r = c.in-Some-hexadecimal-2 in
    let s = c.in-Some-hexadecimal-3 in
    let rest = characters s.rest.now in
    rw c.from_residual.ensures
    (all_four (characters c.args.text.now) p.a (characters p.text.now) p.ensures.digit q.b (characters q.text.now) q.ensures.digit r.c (characters r.text.now) r.ensures.digit s.d rest s.ensures.digit
    ∙ no_character (((p.a * 16 + q.b) * 16 + r.c) * 16 + s.d) rest c.in_err-from_u32.ensures.cases (omega (arith, p.ensures.small, q.ensures.small, r.ensures.small, s.ensures.small)))

pub returns-clause-no_longer : goal.returns-clause-no_longer
returns-clause-no_longer c = omega (arith, c.in-Some.ensures.no_longer, c.in-Some-hexadecimal.ensures.no_longer, c.in-Some-hexadecimal-2.ensures.no_longer, c.in-Some-hexadecimal-3.ensures.no_longer)
