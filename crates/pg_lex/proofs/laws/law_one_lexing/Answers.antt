use Rattle.pg_lex.proofs.Lexing.{one_lexing}
use Rattle.pg_lex.proofs.laws.law_one_lexing.Goals as goal

pub returns : goal.returns
returns c = one_lexing
