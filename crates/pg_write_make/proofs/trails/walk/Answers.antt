use Rattle.std.proofs.Common.{ℕ, List, [], ◌∷◌, ◌++◌, sym, ap, ◌∙◌}
use Rattle.pg_meaning.specs.Patterns.{walk_on}
use Rattle.pg_write_make.proofs.TurnLemmas.{all_walked, walk_ends, walked}
use Rattle.pg_write_make.specs.Makings.{relationship_ids}
use Rattle.pg_write_make.proofs.trails.walk.Goals as goal

pub loop-id-preserved : goal.loop-id-preserved
loop-id-preserved g c =
    let rs = c.args.relationships.now.items in
    walked c.deref-id-items.result.now rs c.loop-id.id-index (record { 0 = 0 }) c.deref-id-items.ensures.value c.loop-id-test.true
    c.args.graph.now c.loop-id.at.0 c.other_end-at.result.0 c.loop-id.ids.items c.push-in-Some.new.self.items c.push-in-Some-2.new.self.items
    (c.args.first.0 ∷ walk_on c.args.graph.now c.args.first.0 (relationship_ids rs)) c.in-Some.relationship
    (sym c.rel.ensures.is ∙ c.in-Some.is) c.other_end-at.ensures c.in_ok-push-in-Some.ensures.items c.in_ok-push-in-Some-2.ensures.items c.loop-id.invariant

pub loop-id-init : goal.loop-id-init
loop-id-init g c =
    let first = c.args.first.0 in
    let rest = walk_on c.args.graph.now first (relationship_ids c.args.relationships.now.items) in
    ap (λ (ns : List ℕ). ns ++ rest) (sym (c.in_ok-push.ensures.items ∙ ap (λ (ns : List ℕ). ns ++ first ∷ []) c.in_ok-ids.ensures.items))

pub returns-in-None : goal.returns-in-None
returns-in-None g c =
    let rs = c.args.relationships.now.items in
    sym (walk_ends c.deref-id-items.result.now rs c.loop-id.id-index (record { 0 = 0 }) c.deref-id-items.ensures.value c.loop-id-test.true
    c.args.graph.now c.loop-id.at.0 c.loop-id.ids.items (c.args.first.0 ∷ walk_on c.args.graph.now c.args.first.0 (relationship_ids rs))
    (sym c.rel.ensures.is ∙ c.in-None.is) c.loop-id.invariant)

pub returns : goal.returns
returns g c =
    let rs = c.args.relationships.now.items in
    sym (all_walked c.deref-id-items.result.now rs c.loop-id.id-index c.deref-id-items.ensures.value c.loop-id-test.false
    c.args.graph.now c.loop-id.at.0 c.loop-id.ids.items (c.args.first.0 ∷ walk_on c.args.graph.now c.args.first.0 (relationship_ids rs)) c.loop-id.invariant)
