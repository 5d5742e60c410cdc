use Rattle.std.proofs.Common.{map, sym, ap, ◌∙◌, arith}
use Rattle.std.proofs.lemmas.List.{length-map}
use Rattle.std.proofs.lemmas.Result.{err_from_is_err_and}
use Rattle.pg_lex.specs.View.{token_view, tokens_view}
use Rattle.pg_meaning.specs.Parse.{expr}
use Rattle.pg_syntax.specs.Pieces.{part}
use Rattle.pg_syntax_expressions.specs.ShrinksExpressions.{expr_shrinks}
use Rattle.pg_syntax_tree.specs.View.{clause_view}
use Rattle.pg_syntax.proofs.Parts.{first_read, first_fails, next_read, next_fails, part_less}
use Rattle.pg_syntax_tokens.proofs.Rows.{passed, map_more}
use Rattle.pg_syntax.proofs.query.parts.Goals as goal

pub returns-in_err-found : goal.returns-in_err-found
returns-in_err-found c =
    let r = err_from_is_err_and c.from_residual.result c.from_residual.ensures.1 in
    let ts = tokens_view c.args.tokens.now.rest.now in
    rw (r.1, r.2) (passed c.in_err-found.field-0.0 (part (expr c.args.depth) (map clause_view c.new.result.items) ts) _
    (λ none. first_fails c.args.text.now _ _ _ ts (omega (arith, length-map c.args.tokens.now.rest.now token_view)) (ap (map clause_view) c.new.ensures.items) none) c.in_err-found.ensures)

pub parts-init : goal.parts-init
parts-init c =
    let ts = tokens_view c.args.tokens.now.rest.now in
    first_read c.args.text.now _ (expr_shrinks c.args.depth) (map clause_view c.new.result.items) _ _ _ ts _ (omega (arith, length-map c.args.tokens.now.rest.now token_view)) (ap (map clause_view) c.new.ensures.items) c.in_ok-found.ensures

pub returns-in_err-next : goal.returns-in_err-next
returns-in_err-next c =
    let r = err_from_is_err_and c.from_residual-in_err-next.result c.from_residual-in_err-next.ensures.1 in
    rw (r.1, r.2) (passed c.in_err-next.field-0.0 (part (expr c.args.depth) (map clause_view c.in_ok-followed.field-0.items) (tokens_view c.with_clause.new.tokens.rest.now)) _
    (λ none. next_fails c.args.text.now _ (expr_shrinks c.args.depth) _ _ _ _ _ _ _ c.parts.invariant (sym c.parts-test.ensures) c.in_ok-clause.ensures
    (ap (map clause_view) c.in_ok-followed.ensures ∙ map_more clause_view _ _) none) c.in_err-next.ensures)

pub parts-smaller : goal.parts-smaller
parts-smaller c =
    let less = part_less c.args.text.now _ (expr_shrinks c.args.depth) _ _ _ _ _ _ _ c.in_ok-clause.ensures c.in_ok-next.ensures in
    omega (arith, length-map c.part-in-parts.new.tokens.rest.now token_view, length-map c.parts.tokens.rest.now token_view)

pub parts-preserved : goal.parts-preserved
parts-preserved c =
    next_read c.args.text.now _ (expr_shrinks c.args.depth) _ _ _ _ _ _ _ _ _ _ c.parts.invariant (sym c.parts-test.ensures) c.in_ok-clause.ensures (ap (map clause_view) c.in_ok-followed.ensures ∙ map_more clause_view _ _) c.in_ok-next.ensures
