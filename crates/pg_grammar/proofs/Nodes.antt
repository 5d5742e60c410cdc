-- Node patterns.
use Rattle.std.proofs.Common.{◌≡◌, ℕ, false, List, [], ◌∷◌, ◌++◌, Option, refl, append_assoc}
use Rattle.pg_meaning.specs.declared.lexemes.Symbol.TheVariants as s
use Rattle.pg_meaning.specs.Tokens.{Token}
use Rattle.pg_meaning.specs.Tree.{Name, Expression, Properties, NodePattern}
use Rattle.pg_meaning.specs.Grammar.{Mark, sign, begun, var_marks, optional_marks, label_marks, properties_marks, node_marks, AreProperties, Fit, Each as EachOf}
use Rattle.pg_meaning.specs.Parse as parse
use Rattle.pg_meaning.specs.Parse.{Parser, ◌>>=◌, ◌>>◌, pure, is_symbol, sees_symbol, begins_var, begins_parameter, begins_integer, symbol, maybe, labels_if_any, properties, node}
use Rattle.pg_grammar.specs.Rules.{Exactly, Exact, Anything}
use Rattle.pg_grammar.proofs.Labels.{labels_or_none}
use Rattle.pg_grammar.proofs.Properties.{NoProperties, properties_exact, var_or_none, behind_properties, behind_labels}
use Rattle.pg_grammar.proofs.Combinators.{Marked, Fitting, Free, fitting, restated, step, behind, made, here_exact, symbol_exact, each_free}
use Rattle.pg_grammar.proofs.FirstTokens.{shown, shows_symbol}

abbrev made_node : ℕ → Option Name → List Name → Properties → NodePattern
made_node at n ls ps = record { place = at; variable = n; labels = ls; properties = ps }

abbrev closing : List Mark
closing = sign s.CloseParenthesis ∷ []

abbrev from_properties : NodePattern → List Mark
from_properties x = properties_marks x.properties ++ closing

abbrev from_labels : NodePattern → List Mark
from_labels x = label_marks x.labels ++ from_properties x

abbrev from_opening : NodePattern → List Mark
from_opening x = sign s.OpenParenthesis ∷ (optional_marks var_marks x.variable ++ from_labels x)

abbrev Inner : NodePattern → Type 0
Inner x = EachOf Free x.variable × (Free x.labels × (AreProperties x.properties × Free x))

abbrev pub HasProperties : NodePattern → Type 0
HasProperties x = AreProperties x.properties

no_var : (x : NodePattern) (y more : List Token) → Fit y (from_labels x) → begins_var (y ++ more) ≡ false
unfolding parse.same_symbol
no_var x y more fits = shown _ (from_labels x) y more (behind_labels _ x.labels _ refl (behind_properties _ x.properties closing refl (λ q w. refl) (shows_symbol _ s.CloseParenthesis [] refl))) fits

no_colon : (x : NodePattern) (y more : List Token) → Fit y (from_properties x) → sees_symbol s.Colon (y ++ more) ≡ false
unfolding parse.same_symbol
no_colon x y more fits = shown (is_symbol s.Colon) (from_properties x) y more (behind_properties _ x.properties closing refl (λ q w. refl) (shows_symbol _ s.CloseParenthesis [] refl)) fits

no_properties : (y more : List Token) → Fit y closing → NoProperties (y ++ more)
unfolding parse.same_symbol
no_properties y more fits = (shown (is_symbol s.OpenBrace) closing y more (shows_symbol _ s.CloseParenthesis [] refl) fits, shown _ closing y more (shows_symbol _ s.CloseParenthesis [] refl) fits)

same_marks : (x : NodePattern) → node_marks x ≡ begun x.place (from_opening x)
same_marks x = simp append_assoc

pub node_exact : (limit : ℕ) (whole : Parser Expression) → Exact limit 1 whole → Exactly limit (node whole) (Fitting HasProperties node_marks) Anything
unfolding node
node_exact limit whole exact = restated (here_exact (λ (x : NodePattern). x.place) from (λ x. tt)) out into (λ more h. h)
  where
    from : (at : ℕ) → Exactly limit (symbol s.OpenParenthesis >> (maybe begins_var parse.var >>= λ n. labels_if_any >>= λ ls. properties whole >>= λ ps. symbol s.CloseParenthesis >> pure (made_node at n ls ps)))
        (Marked (λ x. x.place ≡ at) Inner from_opening) Anything
    from at =
        behind (symbol_exact s.OpenParenthesis) (step (λ (x : NodePattern). x.variable) (λ (x : NodePattern). x.place ≡ at) (var_or_none limit)
        (λ n. step (λ (x : NodePattern). x.labels) (λ (x : NodePattern). (x.variable ≡ n) × (x.place ≡ at)) (labels_or_none limit)
        (λ ls. step (λ (x : NodePattern). x.properties) (λ (x : NodePattern). (x.labels ≡ ls) × ((x.variable ≡ n) × (x.place ≡ at))) (properties_exact limit whole exact)
        (λ ps. behind (symbol_exact s.CloseParenthesis) (made (made_node at n ls ps) (λ (x : NodePattern). (x.properties ≡ ps) × ((x.labels ≡ ls) × ((x.variable ≡ n) × (x.place ≡ at)))) (refl, (refl, (refl, refl))) (λ x h. rw (← h.0, ← h.1.0, ← h.1.1.0, ← h.1.1.1) refl)))
        (λ x y more well fits ends. no_properties y more fits))
        (λ x y more well fits ends. no_colon x y more fits))
        (λ x y more well fits ends. (no_var x y more fits, tt)))

    out : (x : NodePattern) (front : List Token) → Fitting Inner (λ a. begun a.place (from_opening a)) x front → Fitting HasProperties node_marks x front
    out x front h = fitting h.well.1.1.0 (rw (same_marks x) h.fits)

    into : (x : NodePattern) (front : List Token) → Fitting HasProperties node_marks x front → Fitting Inner (λ a. begun a.place (from_opening a)) x front
    into x front h = fitting (each_free x.variable, (tt, (h.well, tt))) (rw (← same_marks x) h.fits)
