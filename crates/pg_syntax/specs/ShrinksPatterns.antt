-- No parser of patterns takes a token back.
use Rattle.std.proofs.Common.{Bool, true, false, [], ◌∷◌, None}
use Rattle.pg_meaning.specs.declared.lexemes.Symbol.TheVariants as s
use Rattle.pg_meaning.specs.Tree.{Expression}
use Rattle.pg_meaning.specs.Tree as tree
use Rattle.pg_meaning.specs.Parse as parse
use Rattle.pg_meaning.specs.Parse.{Parser, sees_symbol, pure, maybe}
use Rattle.pg_syntax.specs.Pieces.{upper_end}
use Rattle.pg_syntax_tokens.specs.Shrinks.{Shrinks, Eats}
use Rattle.pg_syntax_tokens.specs.ShrinksLaws.{eats_shrinks, pure_shrinks, bind_shrinks, bind_eats, then_eats, branch_shrinks, mapped_shrinks, symbol_eats, eat_symbol_shrinks, var_eats, name_eats, parameter_eats, integer_eats, here_shrinks, many_shrinks, maybe_shrinks, labels_if_any_shrinks, after_symbol}
use Rattle.pg_syntax_expressions.specs.ShrinksExpressions.{map_pairs_shrinks}

pub properties_shrinks : {p : Parser Expression} → Shrinks p → Shrinks (parse.properties p)
unfolding parse.properties
properties_shrinks h =
    branch_shrinks (sees_symbol s.OpenBrace) (mapped_shrinks tree.given (map_pairs_shrinks h))
    (branch_shrinks parse.begins_parameter (mapped_shrinks tree.from_parameter (eats_shrinks parameter_eats)) (pure_shrinks tree.no_properties))

pub node_eats : {p : Parser Expression} → Shrinks p → Eats (parse.node p)
unfolding parse.node
node_eats h =
    then_eats here_shrinks (λ at.
    after_symbol s.OpenParenthesis (
    bind_shrinks (maybe_shrinks parse.begins_var (eats_shrinks var_eats)) (λ n.
    bind_shrinks labels_if_any_shrinks (λ ls.
    bind_shrinks (properties_shrinks h) (λ ps.
    eats_shrinks (after_symbol s.CloseParenthesis (pure_shrinks _)))))))

pub other_type_eats : Eats parse.other_type
other_type_eats = after_symbol s.Bar (bind_shrinks (eat_symbol_shrinks s.Colon) (λ colon. bind_shrinks (eats_shrinks name_eats) (λ n. pure_shrinks _)))

pub types_eats : Eats parse.types
unfolding parse.types
types_eats = after_symbol s.Colon (bind_shrinks (eats_shrinks name_eats) (λ n. many_shrinks (sees_symbol s.Bar) ((true, n) ∷ []) (eats_shrinks other_type_eats)))

upper_shrinks : (dots : Bool) → Shrinks (upper_end dots)
upper_shrinks true = maybe_shrinks parse.begins_integer (eats_shrinks integer_eats)
upper_shrinks false = pure_shrinks None

pub range_eats : Eats parse.range
unfolding parse.range
range_eats =
    after_symbol s.Star (
    bind_shrinks (maybe_shrinks parse.begins_integer (eats_shrinks integer_eats)) (λ low.
    bind_shrinks (eat_symbol_shrinks s.TwoDots) (λ dots.
    bind_shrinks (upper_shrinks dots) (λ high. pure_shrinks _))))

pub detail_eats : {p : Parser Expression} → Shrinks p → Eats (parse.detail p)
unfolding parse.detail
detail_eats h =
    after_symbol s.OpenBracket (
    bind_shrinks (maybe_shrinks parse.begins_var (eats_shrinks var_eats)) (λ n.
    bind_shrinks (branch_shrinks (sees_symbol s.Colon) (eats_shrinks types_eats) (pure_shrinks [])) (λ ts.
    bind_shrinks (maybe_shrinks (sees_symbol s.Star) (eats_shrinks range_eats)) (λ r.
    bind_shrinks (properties_shrinks h) (λ ps.
    eats_shrinks (after_symbol s.CloseBracket (pure_shrinks _)))))))

pub relationship_eats : {p : Parser Expression} → Shrinks p → Eats (parse.relationship p)
unfolding parse.relationship
relationship_eats h =
    then_eats here_shrinks (λ at.
    then_eats (eat_symbol_shrinks s.Less) (λ left.
    after_symbol s.Minus (
    bind_shrinks (maybe_shrinks (sees_symbol s.OpenBracket) (eats_shrinks (detail_eats h))) (λ d.
    bind_shrinks (eats_shrinks (symbol_eats s.Minus)) (λ _.
    bind_shrinks (eat_symbol_shrinks s.Greater) (λ right. pure_shrinks _))))))

pub hop_eats : {p : Parser Expression} → Shrinks p → Eats (parse.hop p)
hop_eats h = bind_eats (relationship_eats h) (λ r. bind_shrinks (eats_shrinks (node_eats h)) (λ n. pure_shrinks (r, n)))

path_variable_eats : Eats parse.path_variable
path_variable_eats = bind_eats var_eats (λ n. bind_shrinks (eats_shrinks (symbol_eats s.Equal)) (λ _. pure_shrinks n))

pub path_shrinks : {p : Parser Expression} → Shrinks p → Shrinks (parse.path p)
unfolding parse.path
path_shrinks h =
    bind_shrinks (maybe_shrinks parse.begins_var (eats_shrinks path_variable_eats)) (λ n.
    bind_shrinks (eats_shrinks (node_eats h)) (λ x.
    bind_shrinks (many_shrinks parse.begins_relationship [] (eats_shrinks (hop_eats h))) (λ hs. pure_shrinks _)))
