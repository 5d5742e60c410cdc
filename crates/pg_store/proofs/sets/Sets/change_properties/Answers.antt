use Rattle.std.proofs.Common.{refl, sym, ap, ◌∙◌}
use Rattle.pg_graph.specs.Records.{Properties}
use Rattle.pg_store.proofs.Edited.{properties_covered}
use Rattle.pg_store.proofs.SetLemmas.{values_grow}
use Rattle.pg_store.proofs.sets.Sets.change_properties.Goals as goal
use Rattle.pg_store.proofs.GainLemmas.{gains_none}
use Rattle.pg_store.specs.Covers.{belongs, has_in}

pub returns-in-Ok : goal.returns-in-Ok
returns-in-Ok c =
    let old = c.args.self.now in
    let new = c.move_values.new.self in
    let n = c.args.node.now in
    let moved = c.move_values.ensures in
    let edit = c.in_ok-before.ensures in
    let grows = values_grow old new moved.all moved.labels moved.grown in
    record {
      grown = grows;
      ok = ap (λ (ps : Properties). record n { properties = ps }) edit.ok;
      back = ap (λ (ps : Properties). record n { properties = ps }) edit.back;
      can = edit.can;
      gains = moved.gains;
      left = λ k there h. c.in-Ok.ensures.left k there (ap (λ (ps : Properties). belongs k (record n { properties = ps })) edit.back ∙ h);
      covered = properties_covered (has_in old) (has_in new) n (record n { properties = c.exchange.new.properties }) c.args.id grows c.requires.covered (λ label key v found. c.in-Ok.ensures.ok label key v found) refl;
      err = tt;
    }

pub give_back-requires : goal.give_back-requires
give_back-requires c = c.in_ok-before.ensures.can

pub returns-in-Err : goal.returns-in-Err
returns-in-Err c =
    let moved = c.move_values.ensures in
    record {
      grown = values_grow c.args.self.now c.move_values.new.self moved.all moved.labels moved.grown;
      ok = tt;
      back = tt;
      can = tt;
      covered = tt;
      gains = moved.gains;
      left = tt;
      err = ap (λ (ps : Properties). record c.args.node.now { properties = ps }) (c.give_back.ensures ∙ c.in_ok-before.ensures.back);
    }

pub move_values-requires : goal.move_values-requires
move_values-requires c = record {
  back = c.in_ok-before.ensures.can;
  covered = λ k h. c.requires.covered k (sym (ap (λ (ps : Properties). belongs k (record c.args.node.now { properties = ps })) c.in_ok-before.ensures.back) ∙ h);
}

pub returns-in_err-before-clause-gains : goal.returns-in_err-before-clause-gains
returns-in_err-before-clause-gains c = gains_none c.args.self.now
