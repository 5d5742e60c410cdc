use Rattle.std.proofs.Common.{◌+◌, List, [], ◌∷◌, map, drop, ◌++◌, refl, sym, ap}
use Rattle.std.proofs.lemmas.Result.{IfOk-from_err}
use Rattle.pg_meaning.specs.declared.fault.Fault.TheVariants.{OutOfMemory}
use Rattle.pg_syntax_tree.specs.declared.patterns.NodePattern.{NodePattern}
use Rattle.pg_syntax_tree.specs.declared.patterns.RelationshipPattern.{RelationshipPattern}
use Rattle.pg_write_make.proofs.TurnLemmas.{all_made, memory_alone, one_further, seen_pushed}
use Rattle.pg_write_make.specs.Makings.{others_view, outcomes_view, relationships_view}
use Rattle.pg_write_make.specs.Outcomes.{Outcome, node_outcome, outcome_view, relationship_outcome}
use Rattle.pg_write_make.specs.Scenes.{row_in, parameters_in, reading}
use Rattle.pg_write_make.proofs.kept.keep_hops.Goals as goal

pub loop-hop-preserved : goal.loop-hop-preserved
loop-hop-preserved g c =
    let hs = c.args.hops.now.items in
    let i = c.loop-hop.hop-index in
    let of_node = node_outcome (reading (parameters_in c.args.scene.now)) c.args.graph.now (row_in c.args.scene.now c.args.row.now) in
    let of_relationship = relationship_outcome (reading (parameters_in c.args.scene.now)) c.args.graph.now (row_in c.args.scene.now c.args.row.now) in
    let nodes : List (RelationshipPattern × NodePattern) → List Outcome = λ ys. map of_node (others_view ys) in
    let relationships : List (RelationshipPattern × NodePattern) → List Outcome = λ ys. map of_relationship (relationships_view ys) in
    record {
      nodes = one_further c.deref-hop-items.result.now hs i c.hop-item.result c.deref-hop-items.ensures.value c.hop-item.is c.loop-hop-test.true
          nodes (outcomes_view c.args.nodes.now.items ++ nodes hs) (outcomes_view c.loop-hop.nodes.items) (outcomes_view c.push.new.self.items) (outcome_view c.in_ok-outcome.field-0 ∷ [])
          (ap (λ (o : Outcome). o ∷ nodes (drop (i + 1) hs)) c.in_ok-outcome.ensures.kept)
          (seen_pushed outcome_view c.loop-hop.nodes.items c.push.new.self.items c.in_ok-outcome.field-0 c.in_ok-push.ensures.items)
          c.loop-hop.invariant.nodes;
      relationships = one_further c.deref-hop-items.result.now hs i c.hop-item.result c.deref-hop-items.ensures.value c.hop-item.is c.loop-hop-test.true
          relationships (outcomes_view c.args.relationships.now.items ++ relationships hs) (outcomes_view c.loop-hop.relationships.items) (outcomes_view c.push-in-loop-hop.new.self.items) (outcome_view c.in_ok-relationship_outcome.field-0 ∷ [])
          (ap (λ (o : Outcome). o ∷ relationships (drop (i + 1) hs)) (sym c.in_ok-relationship_outcome.ensures.kept))
          (seen_pushed outcome_view c.loop-hop.relationships.items c.push-in-loop-hop.new.self.items c.in_ok-relationship_outcome.field-0 c.in_ok-push-2.ensures.items)
          c.loop-hop.invariant.relationships;
    }

pub loop-hop-init : goal.loop-hop-init
loop-hop-init g c = record { nodes = refl; relationships = refl }

pub returns-in_err-outcome : goal.returns-in_err-outcome
returns-in_err-outcome g c =
    let result = c.from_residual in
    record {
      nodes = IfOk-from_err result.result _ result.ensures.0;
      relationships = IfOk-from_err result.result _ result.ensures.0;
      err = memory_alone c.in_err-outcome.field-0.0 result.result result.ensures.1 c.in_err-outcome.ensures.err;
    }

pub returns-in_err-push : goal.returns-in_err-push
returns-in_err-push g c =
    let result = c.from_residual-in_err-push in
    record {
      nodes = IfOk-from_err result.result _ result.ensures.0;
      relationships = IfOk-from_err result.result _ result.ensures.0;
      err = memory_alone OutOfMemory result.result result.ensures.1 refl;
    }

pub returns-in_err-relationship_outcome : goal.returns-in_err-relationship_outcome
returns-in_err-relationship_outcome g c =
    let result = c.from_residual-in_err-relationship_outcome in
    record {
      nodes = IfOk-from_err result.result _ result.ensures.0;
      relationships = IfOk-from_err result.result _ result.ensures.0;
      err = memory_alone c.in_err-relationship_outcome.field-0.0 result.result result.ensures.1 c.in_err-relationship_outcome.ensures.err;
    }

pub returns-in_err-push-2 : goal.returns-in_err-push-2
returns-in_err-push-2 g c =
    let result = c.from_residual-in_err-push-2 in
    record {
      nodes = IfOk-from_err result.result _ result.ensures.0;
      relationships = IfOk-from_err result.result _ result.ensures.0;
      err = memory_alone OutOfMemory result.result result.ensures.1 refl;
    }

pub returns : goal.returns
returns g c =
    let hs = c.args.hops.now.items in
    let of_node = node_outcome (reading (parameters_in c.args.scene.now)) c.args.graph.now (row_in c.args.scene.now c.args.row.now) in
    let of_relationship = relationship_outcome (reading (parameters_in c.args.scene.now)) c.args.graph.now (row_in c.args.scene.now c.args.row.now) in
    let nodes : List (RelationshipPattern × NodePattern) → List Outcome = λ ys. map of_node (others_view ys) in
    let relationships : List (RelationshipPattern × NodePattern) → List Outcome = λ ys. map of_relationship (relationships_view ys) in
    record {
      nodes = all_made c.deref-hop-items.result.now hs c.loop-hop.hop-index c.deref-hop-items.ensures.value c.loop-hop-test.false nodes (outcomes_view c.loop-hop.nodes.items) (outcomes_view c.args.nodes.now.items ++ nodes hs) refl (sym c.loop-hop.invariant.nodes);
      relationships = all_made c.deref-hop-items.result.now hs c.loop-hop.hop-index c.deref-hop-items.ensures.value c.loop-hop-test.false
          relationships (outcomes_view c.loop-hop.relationships.items) (outcomes_view c.args.relationships.now.items ++ relationships hs) refl (sym c.loop-hop.invariant.relationships);
      err = tt;
    }
