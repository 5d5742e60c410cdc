use Rattle.pg_syntax_expressions.proofs.nesting.+expression.Given as goal

abbrev pub decreases-expression : goal.decreases-expression
decreases-expression l = l.depth
