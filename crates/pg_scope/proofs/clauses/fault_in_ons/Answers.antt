use Rattle.std.proofs.Common.{map, refl, ◌∙◌}
use Rattle.std.specs.Prelude.{flat_map}
use Rattle.pg_meaning.specs.StaticFaults.{set_faults}
use Rattle.pg_scope.proofs.FirstLemmas.{walk_item, walk_ended}
use Rattle.pg_scope.specs.Names.{names_in}
use Rattle.pg_syntax_tree.specs.View.{on_view}
use Rattle.pg_scope.proofs.clauses.fault_in_ons.Goals as goal

pub loop-on-preserved : goal.loop-on-preserved
loop-on-preserved c =
    c.loop-on.invariant
    ∙ walk_item (λ ys. flat_map (λ o. flat_map (set_faults (names_in c.args.scope.now)) o.1) (map on_view ys)) (λ y. flat_map (set_faults (names_in c.args.scope.now)) (on_view y).1) (λ y ys. refl) c.loop-on-test.true c.on-item.is c.deref-on-items.ensures.value c.fault_in_sets-first.ensures

pub loop-on-init : goal.loop-on-init
loop-on-init c = refl

pub returns : goal.returns
returns c = walk_ended (λ ys. flat_map (λ o. flat_map (set_faults (names_in c.args.scope.now)) o.1) (map on_view ys)) refl c.loop-on-test.false c.deref-on-items.ensures.value c.args.first c.loop-on.first c.loop-on.invariant
