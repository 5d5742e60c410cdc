use Rattle.std.proofs.Common.{sym, ap, ◌∙◌}
use Rattle.std.proofs.lemmas.List.{nil_from_length}
use Rattle.std.proofs.lemmas.Result.{IfOk-from_err}
use Rattle.std.specs.Vec.Iter.{into_iter_items}
use Rattle.pg_graph.specs.Refinement.{property_entries}
use Rattle.pg_meaning.specs.Entries.{set_keys}
use Rattle.pg_store.proofs.names.more_properties.Goals as goal
use Rattle.pg_store.specs.Stores.{pairs_of}

pub loop-key-init : goal.loop-key-init
loop-key-init g c = record {
  properties = ap (λ ps. set_keys (pairs_of ps) (property_entries c.args.names.now c.args.before)) c.into_iter-key-iterator.ensures.into_iter_gives.0;
  named = c.requires.named;
  keeps = λ number text h. h;
  distinct = c.requires.distinct;
}

pub loop-key-preserved : goal.loop-key-preserved
loop-key-preserved g c =
    let l = c.loop-key in
    let set = c.set_text.ensures in
    record {
      properties = ap (set_keys (pairs_of (into_iter_items c.next.new.self))) c.in_ok-set_text.ensures.ok
          ∙ sym (ap (λ ps. set_keys (pairs_of ps) (property_entries l.names l.properties)) c.in-Some.ensures.steps.0)
          ∙ l.invariant.properties;
      named = set.named;
      keeps = λ number text h. set.keeps number text (l.invariant.keeps number text h);
      distinct = set.distinct l.invariant.distinct;
    }

pub returns-in_err-set_text-clause-properties : goal.returns-in_err-set_text-clause-properties
returns-in_err-set_text-clause-properties g c = IfOk-from_err c.from_residual.result _ c.from_residual.ensures.0

pub returns-in_err-set_text-clause-named : goal.returns-in_err-set_text-clause-named
returns-in_err-set_text-clause-named g c = IfOk-from_err c.from_residual.result _ c.from_residual.ensures.0

pub returns-in_err-set_text-clause-keeps : goal.returns-in_err-set_text-clause-keeps
returns-in_err-set_text-clause-keeps g c = λ number text h. c.set_text.ensures.keeps number text (c.loop-key.invariant.keeps number text h)

pub returns-in_err-set_text-clause-distinct : goal.returns-in_err-set_text-clause-distinct
returns-in_err-set_text-clause-distinct g c = c.set_text.ensures.distinct c.loop-key.invariant.distinct

pub returns : goal.returns
returns g c =
    let l = c.loop-key in
    let none = nil_from_length (into_iter_items l.key-iterator) (sym l.key-iterator.rest.ok.0 ∙ c.in-None.ensures.steps.0) in
    record {
      properties = ap (λ ps. set_keys (pairs_of ps) (property_entries l.names l.properties)) (sym none) ∙ l.invariant.properties;
      named = l.invariant.named;
      keeps = l.invariant.keeps;
      distinct = l.invariant.distinct;
    }
