use Rattle.pg_meaning.specs.ArithmeticLaws.{remainder_by_minus_one, sum_symmetric, product_symmetric, quotient_and_remainder, remainder_below, joins_within_limits}
use Rattle.pg_meaning.proofs.laws.law_of_arithmetic.Goals as goal

pub returns-clause-minus_one : goal.returns-clause-minus_one
returns-clause-minus_one c = remainder_by_minus_one

pub returns-clause-sums : goal.returns-clause-sums
returns-clause-sums c = sum_symmetric

pub returns-clause-products : goal.returns-clause-products
returns-clause-products c = product_symmetric

pub returns-clause-quotients : goal.returns-clause-quotients
returns-clause-quotients c = quotient_and_remainder

pub returns-clause-remainders : goal.returns-clause-remainders
returns-clause-remainders c = remainder_below

pub returns-clause-joins : goal.returns-clause-joins
returns-clause-joins c = joins_within_limits
