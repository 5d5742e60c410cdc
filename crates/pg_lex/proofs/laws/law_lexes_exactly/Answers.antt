use Rattle.pg_lex.proofs.Lexing.{lexes_exactly}
use Rattle.pg_lex.proofs.laws.law_lexes_exactly.Goals as goal

pub returns : goal.returns
returns c = lexes_exactly
