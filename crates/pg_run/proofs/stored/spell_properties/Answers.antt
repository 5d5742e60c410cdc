use Rattle.std.proofs.Common.{refl, ap}
use Rattle.std.proofs.lemmas.List.{drop_all}
use Rattle.pg_graph.specs.InOrder.{listed_entries}
use Rattle.pg_run.proofs.Members.{one_member_stored, all_members_stored}
use Rattle.pg_scope.proofs.FirstLemmas.{item_here}
use Rattle.pg_value_core.specs.View.{view}
use Rattle.pg_run.proofs.stored.spell_properties.Goals as goal

pub loop-key-init : goal.loop-key-init
loop-key-init c = rw c.in_ok-found.ensures.items refl

pub loop-key-preserved : goal.loop-key-preserved
loop-key-preserved c =
    let e = c.loop-key-item.result in
    rw c.in_ok-push.ensures.items
    (one_member_stored _ _ _ _ e.0.now (view e.1.now) c.in_ok-name.name c.in_ok-spell_stored.field-0 c.loop-key.invariant
    (ap listed_entries (item_here c.loop-key-test.true c.loop-key-item.is refl)) c.in_ok-name.ensures.ok c.in_ok-spell_stored.ensures)

pub returns : goal.returns
returns c = all_members_stored _ _ c.loop-key.found.items c.loop-key.invariant (ap listed_entries (drop_all c.loop-key.key-index c.args.properties.now c.loop-key-test.false))
