use Rattle.std.proofs.Common.{Ok, sym, ap, ◌∙◌}
use Rattle.pg_expr.proofs.ScalarLemmas.{by_truths}
use Rattle.pg_meaning.specs.Expressions.{combined}
use Rattle.pg_meaning.specs.Logic.{and3, or3, xor3, value_of_truth}
use Rattle.pg_expr.proofs.scalar_operators.truths.Goals as goal

pub returns-in-Or : goal.returns-in-Or
returns-in-Or c = λ v w h k. ap (λ o. combined o v w) c.in-Or.is ∙ by_truths or3 v w c.args.s c.args.t h k ∙ ap (λ u. Ok (value_of_truth u)) (sym c.or.ensures)

pub returns-in-Xor : goal.returns-in-Xor
returns-in-Xor c = λ v w h k. ap (λ o. combined o v w) c.in-Xor.is ∙ by_truths xor3 v w c.args.s c.args.t h k ∙ ap (λ u. Ok (value_of_truth u)) (sym c.xor.ensures)

pub returns-in-And : goal.returns-in-And
returns-in-And c = λ v w h k. ap (λ o. combined o v w) c.in-And.is ∙ by_truths and3 v w c.args.s c.args.t h k ∙ ap (λ u. Ok (value_of_truth u)) (sym c.and.ensures)
