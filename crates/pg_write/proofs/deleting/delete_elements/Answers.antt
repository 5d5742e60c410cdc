use Rattle.std.proofs.Common.{map, Ok, Err}
use Rattle.pg_rows.specs.States.{seen, named_rows}
use Rattle.pg_syntax_tree.specs.View.{expression_view}
use Rattle.pg_value_core.specs.Given.{parameters_view}
use Rattle.pg_write.proofs.DeleteLemmas.{not_gathered, not_charged, taken_gives, gathered_are_there}
use Rattle.pg_write.proofs.ExitLemmas.{gives_fault}
use Rattle.pg_write.proofs.deleting.delete_elements.Goals as goal

pub returns-in_err-doomed-clause-gives : goal.returns-in_err-doomed-clause-gives
returns-in_err-doomed-clause-gives g c = λ s suits.
    gives_fault c.from_residual.result c.in_err-doomed.field-0.0 _ _ c.from_residual.ensures.1
    (λ other.
    not_gathered s c.args.is_detach c.args.live.now.graph c.graph-graph.ensures.sound (seen c.args.table) c.args.meter.now.used
    (parameters_view c.args.query.now.parameters.now) suits.parameters_are c.graph-graph.result c.graph-graph.ensures.is (map expression_view c.args.elements.now.items) _ (c.in_err-doomed.ensures.err other))

pub returns-in_err-spend_for-clause-gives : goal.returns-in_err-spend_for-clause-gives
returns-in_err-spend_for-clause-gives g c = λ s suits.
    gives_fault c.from_residual-in_err-spend_for.result c.in_err-spend_for.field-0.0 _ _ c.from_residual-in_err-spend_for.ensures.1
    (λ other.
    not_charged s c.args.is_detach c.args.live.now.graph c.graph-graph.ensures.sound (seen c.args.table) c.args.meter.now.used
    (parameters_view c.args.query.now.parameters.now) suits.parameters_are c.graph-graph.result c.graph-graph.ensures.is (map expression_view c.args.elements.now.items)
    c.in_ok-doomed.doomed c.in_ok-doomed.ensures.ok _ (c.in_err-spend_for.ensures.spends s suits.steps_are))

pub take_out-requires : goal.take_out-requires
take_out-requires g c =
    record {
      there = gathered_are_there c.args.is_detach (parameters_view c.args.query.now.parameters.now) c.args.live.now.graph c.graph-graph.ensures.sound
          c.graph-graph.result c.graph-graph.ensures.is (map expression_view c.args.elements.now.items) (named_rows (seen c.args.table)) c.in_ok-doomed.doomed c.in_ok-doomed.ensures.ok;
    }

pub returns-in_err-take_out-clause-gives : goal.returns-in_err-take_out-clause-gives
returns-in_err-take_out-clause-gives g c = λ s suits.
    gives_fault c.from_residual-in_err-take_out.result c.in_err-take_out.field-0.0 _ _ c.from_residual-in_err-take_out.ensures.1
    (taken_gives s c.args.is_detach c.args.live.now.graph c.graph-graph.ensures.sound (seen c.args.table) c.args.meter.now.used
    (parameters_view c.args.query.now.parameters.now) suits.parameters_are c.graph-graph.result c.graph-graph.ensures.is (map expression_view c.args.elements.now.items)
    c.in_ok-doomed.doomed c.in_ok-doomed.ensures.ok _ (c.in_ok-spend_for.ensures.spends s suits.steps_are) c.take_out.new.live.graph (Err c.in_err-take_out.field-0.0) tt c.in_err-take_out.ensures.err).err

pub returns-clause-gives : goal.returns-clause-gives
returns-clause-gives g c = λ s suits.
    record {
      ok =
          (taken_gives s c.args.is_detach c.args.live.now.graph c.graph-graph.ensures.sound (seen c.args.table) c.args.meter.now.used
          (parameters_view c.args.query.now.parameters.now) suits.parameters_are c.graph-graph.result c.graph-graph.ensures.is (map expression_view c.args.elements.now.items)
          c.in_ok-doomed.doomed c.in_ok-doomed.ensures.ok _ (c.in_ok-spend_for.ensures.spends s suits.steps_are) c.take_out.new.live.graph (Ok tt) c.in_ok-take_out.ensures.ok tt).ok;
      err = tt;
    }
