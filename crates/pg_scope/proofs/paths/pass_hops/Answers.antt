use Rattle.std.proofs.Common.{map, refl, ◌∙◌}
use Rattle.std.specs.Prelude.{flat_map}
use Rattle.pg_meaning.specs.StaticFaults.{hop_parts}
use Rattle.pg_scope.proofs.FirstLemmas.{in_turn}
use Rattle.pg_scope.proofs.PartLemmas.{passes_relationship, passes_in_turn, passes_item, passes_all}
use Rattle.pg_scope.specs.Modes.{mode_view}
use Rattle.pg_scope.specs.Names.{names_in}
use Rattle.pg_scope.specs.Used.{used_in}
use Rattle.pg_syntax_tree.specs.View.{hop_view}
use Rattle.pg_scope.proofs.paths.pass_hops.Goals as goal

pub loop-relationship-preserved : goal.loop-relationship-preserved
loop-relationship-preserved c = λ rest.
    c.loop-relationship.invariant rest
    ∙ passes_item (λ ys. flat_map hop_parts (map hop_view ys)) (λ ys. refl) c.loop-relationship-test.true c.loop-relationship-item.is c.deref-relationship-items.ensures.value
    (passes_in_turn (passes_relationship (in_turn c.fault_in_relationship_variable-first.ensures c.in_ok-first.ensures) c.in_ok-add_relationship_variable.ensures) c.in_ok-first-2.ensures) rest

pub loop-relationship-init : goal.loop-relationship-init
loop-relationship-init c = λ rest. refl

pub returns : goal.returns
returns c =
    let l = c.loop-relationship in
    passes_all (λ ys. flat_map hop_parts (map hop_view ys)) refl c.loop-relationship-test.false c.deref-relationship-items.ensures.value (mode_view c.args.mode) (names_in c.args.outer.now) (used_in c.args.used.now) (used_in l.used) c.args.first l.first l.invariant
