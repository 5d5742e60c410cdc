use Rattle.pg_lex.proofs.Contract.{lexes_so, no_other, none_lexes}
use Rattle.pg_lex.proofs.lexer.tokens.Goals as goal

pub returns-clause-lexes : goal.returns-clause-lexes
returns-clause-lexes c = rw c.ok_or.ensures.value (lexes_so _ _ c.utf8.text c.in_ok-lexed.ensures)

pub returns-clause-only : goal.returns-clause-only
returns-clause-only c = rw c.ok_or.ensures.value (no_other _ _ c.utf8.text c.in_ok-lexed.ensures)

pub returns-clause-none : goal.returns-clause-none
returns-clause-none c = rw c.ok_or.ensures.value (none_lexes _ _ c.utf8.text c.in_ok-lexed.ensures)
