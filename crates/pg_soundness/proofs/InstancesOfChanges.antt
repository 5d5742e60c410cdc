-- The instances of SET, REMOVE and DELETE are what their functions compute.
use Rattle.std.proofs.Common.{◌≡◌, Bool, true, false, [], ◌∷◌, Some, None, Result, Ok, Err, codes, refl, sym, ap, subst}
use Rattle.pg_meaning.specs.AnswerLaws.{same_ok}
use Rattle.pg_meaning.specs.Entries.{value_at}
use Rattle.pg_meaning.specs.ExamplesOfFits.{not_true, pair_graph, instances_of_graphs}
use Rattle.pg_meaning.specs.ExamplesOfSteps.{within, one}
use Rattle.pg_meaning.specs.Graph.{Graph, IsGraph, node_at, remove_elements}
use Rattle.pg_meaning.specs.Meters.{Setting}
use Rattle.pg_meaning.specs.Order.{is_equivalent}
use Rattle.pg_meaning.specs.Updates.{doomed_nodes, doomed_relationships, test_unconnected}
use Rattle.pg_meaning.specs.declared.fault.Fault.{Fault}
use Rattle.pg_meaning.specs.declared.fault.Fault.TheVariants.{NodeStillConnected}
use Rattle.pg_soundness.specs.Changing.{Removal}
use Rattle.pg_soundness.specs.InstancesOfChanges.{with_k, without_k, second_alone, set_k, remove_k, a_alone, at_zero, InstancesOfChanges}
use Rattle.pg_soundness.proofs.ChangesComputed.{set_is_computed, remove_is_computed}
use Rattle.pg_soundness.proofs.DeletesComputed.{some_setting, delete_is_computed}

abbrev k_is_one : Graph → Bool
k_is_one g = elim (node_at g 0) [ Some e ↦ is_equivalent (value_at (codes "k") e.properties) one | None ↦ false ]

abbrev given_a : Setting
given_a = some_setting (within (codes "a" ∷ []))

is_pair : IsGraph pair_graph
is_pair = instances_of_graphs.0

still_connected : Removal given_a false a_alone pair_graph at_zero second_alone → ⊥
still_connected d = apart (subst (λ x. test_unconnected (remove_elements [] (doomed_relationships false pair_graph x) pair_graph) (doomed_nodes pair_graph x) ≡ Ok tt) (sym (same_ok (0 ∷ [], []) d.doomed d.named)) d.connected)
  where
    apart : ◌≡◌ {A = Result (Unit {0}) Fault} (Err NodeStillConnected) (Ok tt) → ⊥
    apart e = cc

pub instances_of_changes : InstancesOfChanges
instances_of_changes = (
  ((set_is_computed given_a set_k pair_graph (with_k 2) at_zero is_pair).0 refl, refl),
  (λ s. not_true (ap k_is_one (same_ok (with_k 2) pair_graph ((set_is_computed given_a set_k pair_graph pair_graph at_zero is_pair).1 s.0)))),
  ((remove_is_computed remove_k pair_graph without_k at_zero is_pair).0 refl, refl),
  (λ s. not_true (ap k_is_one (same_ok without_k pair_graph ((remove_is_computed remove_k pair_graph pair_graph at_zero is_pair).1 s.0)))),
  ((delete_is_computed given_a true a_alone pair_graph second_alone at_zero is_pair).0 (record { doomed = (0 ∷ [], []); named = refl; connected = refl; removed = refl }), refl),
  (λ s. still_connected ((delete_is_computed given_a false a_alone pair_graph second_alone at_zero is_pair).1 s.0)),
)
