use Rattle.std.proofs.Common.{map, refl, ◌∙◌, inl, inr}
use Rattle.std.specs.Prelude.{flat_map}
use Rattle.pg_meaning.specs.StaticFaults.{set_faults}
use Rattle.pg_scope.proofs.FirstLemmas.{in_turn, walk_item, walk_ended}
use Rattle.pg_scope.specs.Names.{names_in}
use Rattle.pg_syntax_tree.specs.View.{set_item_view}
use Rattle.pg_scope.proofs.clauses.fault_in_sets.Goals as goal

pub loop-item-preserved : goal.loop-item-preserved
loop-item-preserved c =
    c.loop-item.invariant
    ∙ walk_item (λ ys. flat_map (set_faults (names_in c.args.scope.now)) (map set_item_view ys)) (λ y. (set_faults (names_in c.args.scope.now)) (set_item_view y)) (λ y ys. refl) c.loop-item-test.true c.item-item.is c.deref-item-items.ensures.value (elim c.match-item.branch [
      | goal.in-Property2 w ↦ rw w.first-is (let both = in_turn w.fault_in_variable-first-in-Property.ensures w.fault_in_expression-first.ensures in elim w.in-Property.is [
        | inl e ↦ rw e.1 both
        | inr others ↦ elim others [ inl e ↦ rw e both | inr e ↦ rw e both ]
      ])
      | goal.in-Labels w ↦ rw w.first-is (rw w.in-Labels.is w.fault_in_variable-first.ensures)
    ])

pub loop-item-init : goal.loop-item-init
loop-item-init c = refl

pub returns : goal.returns
returns c = walk_ended (λ ys. flat_map (set_faults (names_in c.args.scope.now)) (map set_item_view ys)) refl c.loop-item-test.false c.deref-item-items.ensures.value c.args.first c.loop-item.first c.loop-item.invariant
