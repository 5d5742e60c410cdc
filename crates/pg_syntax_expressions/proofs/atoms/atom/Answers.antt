use Rattle.std.proofs.Common.{sym, ap, ◌∙◌}
use Rattle.pg_lex.specs.View.{tokens_view}
use Rattle.pg_meaning.specs.Parse as parse
use Rattle.pg_meaning.specs.Parse.{Parser, ◌<$>◌}
use Rattle.pg_meaning.specs.Tree as tree
use Rattle.pg_meaning.specs.declared.lexemes.Symbol.TheVariants as s
use Rattle.pg_syntax_expressions.proofs.Steps.{branch_no, branch_yes, fails, fails_at, goes_on}
use Rattle.pg_syntax_tree.proofs.Views.{map_is}
use Rattle.pg_syntax_tree.specs.View.{expression_view}
use Rattle.pg_syntax_expressions.proofs.atoms.atom.Goals as goal

abbrev map_atom : Parser tree.Expression → Parser tree.Expression
map_atom whole = tree.map_literal <$> parse.map_pairs whole

pub returns-in_err-map_pairs : goal.returns-in_err-map_pairs
unfolding parse.atom
returns-in_err-map_pairs g c =
    let whole = g.W.Expressions.parser c.args.whole.now in
    let ts = tokens_view c.args.tokens.now.rest.now in
    fails expression_view (parse.map_pairs whole ts) (parse.atom whole ts) c.from_residual.result c.in_err-map_pairs.field-0.0 _ c.from_residual.ensures.1
    (λ none. branch_yes (parse.sees_symbol s.OpenBrace) (map_atom whole) (parse.plain_atom whole) ts (sym c.sees.ensures ∙ c.if-sees.true) ∙ fails_at (parse.map_pairs whole) (λ x. parse.pure (tree.map_literal x)) ts none)
    c.in_err-map_pairs.ensures

pub returns-then-sees : goal.returns-then-sees
unfolding parse.atom
returns-then-sees g c =
    let whole = g.W.Expressions.parser c.args.whole.now in
    let ts = tokens_view c.args.tokens.now.rest.now in
    rw (map_is c.in_ok-map_pairs.field-0)
    (branch_yes (parse.sees_symbol s.OpenBrace) (map_atom whole) (parse.plain_atom whole) ts (sym c.sees.ensures ∙ c.if-sees.true)
    ∙ goes_on (parse.map_pairs whole) (λ x. parse.pure (tree.map_literal x)) ts (tokens_view c.map_pairs.new.tokens.rest.now) _ c.in_ok-map_pairs.ensures)

pub returns-in_default : goal.returns-in_default
unfolding parse.atom
returns-in_default g c =
    let whole = g.W.Expressions.parser c.args.whole.now in
    let ts = tokens_view c.args.tokens.now.rest.now in
    let taken = rw c.in_default.is at c.take.ensures in
    branch_no (parse.sees_symbol s.OpenBrace) (map_atom whole) (parse.plain_atom whole) ts (sym c.sees.ensures ∙ c.if-sees.false) ∙ ap (λ l. parse.plain_atom whole (tokens_view l)) taken.0

pub returns : goal.returns
unfolding parse.atom
returns g c =
    let whole = g.W.Expressions.parser c.args.whole.now in
    let taken = rw c.in-Some.is at c.take.ensures in
    rw (branch_no (parse.sees_symbol s.OpenBrace) (map_atom whole) (parse.plain_atom whole) (tokens_view c.args.tokens.now.rest.now) (sym c.sees.ensures ∙ c.if-sees.false)) (rw taken c.atom_by.ensures)
