use Rattle.pg_grammar.proofs.law_of_symbols.Goals as goal
use Rattle.pg_grammar.proofs.Terminals.{symbols_exact}

pub returns : goal.returns
returns c = symbols_exact
