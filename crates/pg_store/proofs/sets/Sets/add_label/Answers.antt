use Rattle.std.proofs.Common.{ℕ, List, refl, ap, ◌∙◌}
use Rattle.pg_graph.specs.Records.{without_label}
use Rattle.pg_store.proofs.Edited.{label_covered, label_taken}
use Rattle.pg_store.proofs.sets.Sets.add_label.Goals as goal
use Rattle.pg_store.proofs.GainLemmas.{gains_none, more_belongs}
use Rattle.pg_store.proofs.NoteLemmas.{or_left}
use Rattle.pg_store.specs.Covers.{belongs, has_in}
use Rattle.pg_store.specs.Noted.{is_noted}

pub returns-in-Ok : goal.returns-in-Ok
returns-in-Ok c =
    let old = c.args.self.now in
    let new = c.insert_new_label.new.self in
    let n = c.args.node.now in
    let more = c.in_ok-insert.ensures.ok in
    record {
      grown = c.insert_new_label.ensures.grown;
      ok = ap (λ (ls : List ℕ). record n { labels = ls }) more;
      back = ap (λ (ls : List ℕ). record n { labels = ls }) (ap (λ (ls : List ℕ). without_label ls c.args.label) more ∙ label_taken c.args.label n.labels c.requires.new);
      can = tt;
      gains = c.insert_new_label.ensures.gains;
      left = λ k there h. or_left (belongs k (record n { labels = c.insert.new.self })) (is_noted new.stale_ids.items k c.args.id) (more_belongs n (record n { labels = c.insert.new.self }) c.args.label more refl k h);
      covered = label_covered (has_in old) (has_in new) n (record n { labels = c.insert.new.self }) c.args.id c.insert_new_label.ensures.grown c.requires.covered (λ label key v found. c.in-Ok.ensures.values label key v found) c.args.label more c.in-Ok.ensures.label;
      err = tt;
    }

pub returns-in-Err : goal.returns-in-Err
returns-in-Err c =
    let n = c.args.node.now in
    record {
      grown = c.insert_new_label.ensures.grown;
      ok = tt;
      back = tt;
      can = tt;
      covered = tt;
      gains = c.insert_new_label.ensures.gains;
      left = tt;
      err = ap (λ (ls : List ℕ). record n { labels = ls }) (c.remove.ensures.removed ∙ ap (λ (ls : List ℕ). without_label ls c.args.label) c.in_ok-insert.ensures.ok ∙ label_taken c.args.label n.labels c.requires.new);
    }

pub returns-in_err-insert-clause-gains : goal.returns-in_err-insert-clause-gains
returns-in_err-insert-clause-gains c = gains_none c.args.self.now
