use Rattle.std.proofs.Common.{map, sym, ◌∙◌}
use Rattle.std.proofs.lemmas.Bool.{false≢true}
use Rattle.std.proofs.lemmas.List.{at_drop_more}
use Rattle.std.specs.Str.{str_to_ascii_lowercase}
use Rattle.pg_meaning.specs.Tokens as spec
use Rattle.pg_lex.proofs.Reserved.{found, passed}
use Rattle.pg_lex.proofs.keywords.keyword_among.Goals as goal

pub returns-then-eq_ignore_ascii_case : goal.returns-then-eq_ignore_ascii_case
returns-then-eq_ignore_ascii_case c =
    sym (c.loop-text.invariant ∙ at_drop_more (λ ks. spec.keyword_among (map (λ p. (str_to_ascii_lowercase p.0.now, p.1)) ks) (str_to_ascii_lowercase c.args.word.now)) c.args.keywords.now c.loop-text.text-index _ c.loop-text-test.true
    ∙ found _ _ _ _ (c.eq_ignore_ascii_case.ensures.test.0 c.if-eq_ignore_ascii_case.true))

pub loop-text-preserved : goal.loop-text-preserved
loop-text-preserved c =
    c.loop-text.invariant ∙ at_drop_more (λ ks. spec.keyword_among (map (λ p. (str_to_ascii_lowercase p.0.now, p.1)) ks) (str_to_ascii_lowercase c.args.word.now)) c.args.keywords.now c.loop-text.text-index _ c.loop-text-test.true
    ∙ passed _ _ _ _ (λ e. false≢true (sym c.if-eq_ignore_ascii_case.false ∙ c.eq_ignore_ascii_case.ensures.test.1 e))
