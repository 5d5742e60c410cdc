use Rattle.std.proofs.Common.{rules, ◌∙◌, sym, nat_eq, nat_lt}
use Rattle.pg_meaning.specs.Tokens.{keywords}
use Rattle.pg_lex.proofs.Lengths.{by_length}
use Rattle.pg_lex.proofs.keywords.keyword_of.Goals as goal

pub returns-in-2 : goal.returns-in-2
unfolding keywords
returns-in-2 c = c.keyword_among.ensures ∙ sym (by_length (λ n. nat_eq n 2) c.args.word.now (search rules))

pub returns-in-3 : goal.returns-in-3
unfolding keywords
returns-in-3 c = c.keyword_among-in-3.ensures ∙ sym (by_length (λ n. nat_eq n 3) c.args.word.now (search rules))

pub returns-in-4 : goal.returns-in-4
unfolding keywords
returns-in-4 c = c.keyword_among-in-4.ensures ∙ sym (by_length (λ n. nat_eq n 4) c.args.word.now (search rules))

pub returns-in-5 : goal.returns-in-5
unfolding keywords
returns-in-5 c = c.keyword_among-in-5.ensures ∙ sym (by_length (λ n. nat_eq n 5) c.args.word.now (search rules))

pub returns-in-6 : goal.returns-in-6
unfolding keywords
returns-in-6 c = c.keyword_among-in-6.ensures ∙ sym (by_length (λ n. nat_eq n 6) c.args.word.now (search rules))

pub returns-in-0 : goal.returns-in-0
unfolding keywords
returns-in-0 c = sym (by_length (λ n. nat_lt n 2) c.args.word.now (search rules))

pub returns-in_default : goal.returns-in_default
unfolding keywords
returns-in_default c = c.keyword_among-in_default.ensures ∙ sym (by_length (λ n. nat_lt 6 n) c.args.word.now (search rules))
