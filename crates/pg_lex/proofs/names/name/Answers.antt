use Rattle.std.proofs.Common.{◌≡◌, sym, ◌∙◌, eqb-true, string_bytes, length, arith, rules, false}
use Rattle.std.proofs.lemmas.Bool.{eqb-false}
use Rattle.pg_meaning.specs.Tokens.{quoted_from, characters}
use Rattle.pg_lex.proofs.Backquotes.{ended, name_empty, name_some, quoted_more}
use Rattle.pg_lex.proofs.names.name.Goals as goal

pub loop-first-preserved : goal.loop-first-preserved
loop-first-preserved c = (search rules, quoted_more _ _ _ _ _ c.in-Some.first _ c.loop-first.invariant.1 c.in-Some.ensures.parts c.in-Some-past.ensures.rest c.in_ok-push.ensures.bytes)

pub returns-then-is_empty : goal.returns-then-is_empty
returns-then-is_empty c =
    let e = ended _ _ _ c.in-Some.first (quoted_from false (characters c.args.text.now)) c.loop-first.invariant.1 c.in-Some.ensures.parts c.in_default-past.ensures.rest in
    let long : c.loop-first.name.bytes.len ≡ length (string_bytes c.loop-first.name) = omega (arith, c.loop-first.name.bytes.ok.0) in
    name_empty _ _ _ e (sym long ∙ eqb-true _ 0 (sym c.if-is_empty.ensures))

pub returns-in_default-past : goal.returns-in_default-past
returns-in_default-past c =
    let e = ended _ _ _ c.in-Some.first (quoted_from false (characters c.args.text.now)) c.loop-first.invariant.1 c.in-Some.ensures.parts c.in_default-past.ensures.rest in
    let long : c.loop-first.name.bytes.len ≡ length (string_bytes c.loop-first.name) = omega (arith, c.loop-first.name.bytes.ok.0) in
    name_some _ _ _ e (λ h. eqb-false _ 0 (sym c.if-is_empty.ensures) (long ∙ h))
