use Rattle.std.proofs.Common.{map, refl, ◌∙◌, inl, inr}
use Rattle.std.specs.Prelude.{flat_map}
use Rattle.pg_meaning.specs.StaticFaults.{remove_faults}
use Rattle.pg_scope.proofs.FirstLemmas.{walk_item, walk_ended}
use Rattle.pg_scope.specs.Names.{names_in}
use Rattle.pg_syntax_tree.specs.View.{remove_item_view}
use Rattle.pg_scope.proofs.clauses.fault_in_removes.Goals as goal

pub loop-item-preserved : goal.loop-item-preserved
loop-item-preserved c =
    c.loop-item.invariant
    ∙ walk_item (λ ys. flat_map (remove_faults (names_in c.args.scope.now)) (map remove_item_view ys)) (λ y. (remove_faults (names_in c.args.scope.now)) (remove_item_view y)) (λ y ys. refl) c.loop-item-test.true c.item-item.is c.deref-item-items.ensures.value (elim c.in-Property.is [ inl e ↦ rw e.1 c.fault_in_variable-first.ensures | inr e ↦ rw e.1 c.fault_in_variable-first.ensures ])

pub loop-item-init : goal.loop-item-init
loop-item-init c = refl

pub returns : goal.returns
returns c = walk_ended (λ ys. flat_map (remove_faults (names_in c.args.scope.now)) (map remove_item_view ys)) refl c.loop-item-test.false c.deref-item-items.ensures.value c.args.first c.loop-item.first c.loop-item.invariant
