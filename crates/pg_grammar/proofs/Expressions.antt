-- Expressions: one level above the other, and brackets by induction.
use Rattle.std.proofs.Common.{ℕ, zero, suc, arith}
use Rattle.pg_meaning.specs.Tree.{Expression}
use Rattle.pg_meaning.specs.Parse.{Parser, post, unary, product, sum, predicate, comparison, negation, conjunction, exclusion, disjunction, expr}
use Rattle.pg_grammar.specs.Rules.{Exact, ExpressionsAreExact}
use Rattle.pg_grammar.specs.Levels.{MapsAreExact}
use Rattle.pg_grammar.proofs.Atoms.{atom_exact}
use Rattle.pg_grammar.proofs.Suffixes.{post_exact}
use Rattle.pg_grammar.proofs.Prefixes.{signs_exact, negation_exact}
use Rattle.pg_grammar.proofs.Tests.{tests_exact}
use Rattle.pg_grammar.proofs.Chains.{chain_exact}

module _ (maps_exact : MapsAreExact) where
  module _ (limit : ℕ) (whole : Parser Expression) (exact : Exact limit 1 whole) where
    unary_exact : Exact (suc limit) 9 (unary whole)
    unfolding unary
    unary_exact = signs_exact (suc limit) (post whole) (post_exact limit whole exact (atom_exact limit whole exact (maps_exact limit whole exact)))

    product_exact : Exact (suc limit) 8 (product whole)
    unfolding product
    product_exact = chain_exact (suc limit) 8 (omega arith) (omega arith) (omega arith) (unary whole) unary_exact

    sum_exact : Exact (suc limit) 7 (sum whole)
    unfolding sum
    sum_exact = chain_exact (suc limit) 7 (omega arith) (omega arith) (omega arith) (product whole) product_exact

    predicate_exact : Exact (suc limit) 6 (predicate whole)
    unfolding predicate
    predicate_exact = tests_exact (suc limit) (sum whole) sum_exact

    comparison_exact : Exact (suc limit) 5 (comparison whole)
    unfolding comparison
    comparison_exact = chain_exact (suc limit) 5 (omega arith) (omega arith) (omega arith) (predicate whole) predicate_exact

    not_exact : Exact (suc limit) 4 (negation whole)
    unfolding negation
    not_exact = negation_exact (suc limit) (comparison whole) comparison_exact

    conjunction_exact : Exact (suc limit) 3 (conjunction whole)
    unfolding conjunction
    conjunction_exact = chain_exact (suc limit) 3 (omega arith) (omega arith) (omega arith) (negation whole) not_exact

    exclusion_exact : Exact (suc limit) 2 (exclusion whole)
    unfolding exclusion
    exclusion_exact = chain_exact (suc limit) 2 (omega arith) (omega arith) (omega arith) (conjunction whole) conjunction_exact

    disjunction_exact : Exact (suc limit) 1 (disjunction whole)
    unfolding disjunction
    disjunction_exact = chain_exact (suc limit) 1 (omega arith) (omega arith) (omega arith) (exclusion whole) exclusion_exact

  pub expressions_exact : ExpressionsAreExact
  unfolding expr
  expressions_exact zero = record { sound = λ ts a more e. absurd cc; complete = λ a front more h ends less. absurd (omega arith) }
  expressions_exact (suc n) = disjunction_exact n (expr n) (expressions_exact n)
