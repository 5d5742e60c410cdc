use Rattle.pg_syntax_tree.proofs.Views.{map_is, call_is, case_is, chain_is, negation_is, signs_is, tests_is, suffixes_is}
use Rattle.pg_syntax_tree.proofs.laws.law_of_views.Goals as goal

pub returns : goal.returns
returns c = record {
  map_literal = map_is;
  call = call_is;
  case = case_is;
  chain = chain_is;
  negation = negation_is;
  signs = signs_is;
  tests = tests_is;
  suffixes = suffixes_is;
}
