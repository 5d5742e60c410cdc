use Rattle.std.proofs.Common.{◌≡◌, Some, sym, ap, ◌∙◌}
use Rattle.pg_lex.specs.View.{tokens_view}
use Rattle.pg_meaning.specs.Parse as parse
use Rattle.pg_meaning.specs.Parse.{◌>>◌}
use Rattle.pg_meaning.specs.Tree as tree
use Rattle.pg_meaning.specs.declared.lexemes.Symbol.TheVariants as s
use Rattle.pg_syntax_expressions.proofs.Steps.{branch_taken, branch_left}
use Rattle.pg_syntax_tree.specs.View.{expression_view, name_view, view_step}
use Rattle.pg_syntax_tree.specs.declared.expression.Expression.TheFolds.{fold-roll-Expression}
use Rattle.pg_syntax_tree.specs.declared.expression.Expression.TheOpen.{Expression-F}
use Rattle.pg_syntax_tree.specs.declared.expression.Expression.TheVariants as expression
use Rattle.pg_syntax_tree.specs.declared.expression.Expression.TheViews.{rolls-Variable}
use Rattle.pg_syntax_tree.specs.declared.expression.Name.{Name}
use Rattle.pg_syntax_expressions.proofs.atoms.word_atom.Goals as goal

variable_is : (n : Name) → expression_view (expression.Variable n) ≡ tree.variable (name_view n)
variable_is n = ap expression_view (sym (rolls-Variable n)) ∙ fold-roll-Expression tree.Expression view_step (Expression-F.Variable n)

pub returns-then-eat : goal.returns-then-eat
returns-then-eat g c =
    let name = name_view c.args.name in
    rw (branch_taken s.OpenParenthesis (parse.call (g.W.Expressions.parser c.args.whole.now) name) (parse.pure (tree.variable name)) (tokens_view c.args.tokens.now.rest.now) (tokens_view c.eat.new.self.rest.now) (rw c.if-eat.true at c.eat.ensures)) c.call.ensures

pub returns : goal.returns
returns g c =
    let name = name_view c.args.name in
    let us = tokens_view c.eat.new.self.rest.now in
    branch_left s.OpenParenthesis (parse.symbol s.OpenParenthesis >> parse.call (g.W.Expressions.parser c.args.whole.now) name) (parse.pure (tree.variable name)) (tokens_view c.args.tokens.now.rest.now) us (rw c.if-eat.false at c.eat.ensures)
    ∙ ap (λ x. Some (x, us)) (sym (variable_is c.args.name))
