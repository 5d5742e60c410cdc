use Rattle.std.proofs.Common.{◌≡◌, map, drop}
use Rattle.std.specs.Str.{str_to_ascii_lowercase}
use Rattle.pg_meaning.specs.Tokens as spec
use Rattle.pg_lex.proofs.keywords.keyword_among.Given as goal

abbrev pub invariant-loop-text : goal.invariant-loop-text
invariant-loop-text l =
    spec.keyword_among (map (λ p. (str_to_ascii_lowercase p.0.now, p.1)) l.keywords) (str_to_ascii_lowercase l.word)
    ≡ spec.keyword_among (map (λ p. (str_to_ascii_lowercase p.0.now, p.1)) (drop l.text-index l.keywords)) (str_to_ascii_lowercase l.word)
