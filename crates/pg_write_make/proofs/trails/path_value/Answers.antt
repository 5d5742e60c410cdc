use Rattle.std.proofs.Common.{rules, ◌≡◌, [], ◌∷◌, sym, ap, ◌∙◌}
use Rattle.pg_meaning.specs.Patterns.{path_value}
use Rattle.pg_meaning.specs.Value.{path}
use Rattle.pg_write_make.proofs.TrailLemmas.{none_there, path_of_none, path_seen}
use Rattle.pg_write_make.specs.Lent.{trail_view}
use Rattle.pg_write_make.proofs.trails.path_value.Goals as goal

pub returns-in_ok-walk-in-Some : goal.returns-in_ok-walk-in-Some
returns-in_ok-walk-in-Some g c =
    let trail = c.args.trail.now in
    let nodes : trail.nodes.items ≡ c.in-Some.first.now ∷ c.in-Some.field-0-1.now = search rules in
    let seen : path c.in_ok-walk-in-Some.field-0.items ≡ path_value c.args.graph.now (trail_view trail) = ap path c.in_ok-walk-in-Some.ensures ∙ sym (path_seen c.args.graph.now trail.nodes.items trail.relationships.items c.in-Some.first.now c.in-Some.field-0-1.now nodes) in
    search (rules, seen)

pub returns-in-None : goal.returns-in-None
returns-in-None g c =
    let trail = c.args.trail.now in
    let nodes : trail.nodes.items ≡ [] = sym c.deref.ensures.value ∙ none_there c.deref.result.now c.in-None.ensures.cases in
    let seen : path c.new.result.items ≡ path_value c.args.graph.now (trail_view trail) = ap path c.new.ensures.items ∙ sym (path_of_none c.args.graph.now trail.nodes.items trail.relationships.items nodes) in
    search (rules, seen)
