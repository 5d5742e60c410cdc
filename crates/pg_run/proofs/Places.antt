-- The places of a path spelt out one after the other.
use Rattle.std.proofs.Common.{◌≡◌, ◌≢◌, ℕ, ◌-◌, arith, Bool, true, false, not, List, [], ◌∷◌, ◌++◌, Result, Ok, Err, refl, sym, ap, ◌∙◌}
use Rattle.serde_json.specs.Data.{Items, item}
use Rattle.pg_json.specs.Replies.{data_of, outs}
use Rattle.pg_json.specs.Room.{least, items_least}
use Rattle.pg_meaning.specs.Answer.{◌>>◌}
use Rattle.pg_meaning.specs.Graph.{Graph, has_relationship}
use Rattle.pg_meaning.specs.Queries.{test_present, test_ids}
use Rattle.pg_meaning.specs.declared.fault.Fault.{Fault}
use Rattle.pg_run.proofs.Items.{outs_before, outs_before-nothing, outs_before-push, room_then, room_before}
use Rattle.pg_run.specs.Places.{test_place, shown_place}
use Rattle.pg_run.specs.Printed.{path_items, hop_items}
use Rattle.pg_value_core.specs.declared.out.Out.{Out}

pub then_ok : (r : Result (Unit {0}) Fault) → r ≡ (r >> Ok tt)
then_ok (Ok u) = refl
then_ok (Err e) = refl

pub regroup : (a b c : Result (Unit {0}) Fault) → ((a >> b) >> c) ≡ (a >> (b >> c))
regroup (Ok u) b c = refl
regroup (Err e) b c = refl

module _ (graph : Graph) where
  -- the tests and the data from a place on
  abbrev pub test_from : (is_node : Bool) → List ℕ → Result (Unit {0}) Fault
  test_from true ids = test_ids graph ids
  test_from false [] = Ok tt
  test_from false (r ∷ ids) = test_present (has_relationship graph r) >> test_ids graph ids

  abbrev shown_from : (is_node : Bool) → List ℕ → Items
  shown_from true ids = path_items graph ids
  shown_from false ids = hop_items graph ids

  pub test_step : (is_node : Bool) (n : ℕ) (ids : List ℕ) → test_from is_node (n ∷ ids) ≡ (test_place graph is_node n >> test_from (not is_node) ids)
  test_step true n [] = then_ok _
  test_step true n (r ∷ ids) = regroup (test_place graph true n) (test_place graph false r) (test_ids graph ids)
  test_step false n ids = refl

  shown_step : (is_node : Bool) (n : ℕ) (ids : List ℕ) → shown_from is_node (n ∷ ids) ≡ item (shown_place graph is_node n) (shown_from (not is_node) ids)
  shown_step true n ids = refl
  shown_step false n ids = refl

  pub place_tested : (is_node : Bool) (all rest more : List ℕ) (n : ℕ) → test_ids graph all ≡ test_from is_node rest → rest ≡ n ∷ more → test_place graph is_node n ≡ Ok tt → test_ids graph all ≡ test_from (not is_node) more
  place_tested is_node all rest more n so_far is live = so_far ∙ ap (test_from is_node) is ∙ test_step is_node n more ∙ ap (λ r. r >> test_from (not is_node) more) live

  pub place_refused : (is_node : Bool) (all rest more : List ℕ) (n : ℕ) (e : Fault) → test_ids graph all ≡ test_from is_node rest → rest ≡ n ∷ more → test_place graph is_node n ≡ Err e → test_ids graph all ≡ Err e
  place_refused is_node all rest more n e so_far is fault = so_far ∙ ap (test_from is_node) is ∙ test_step is_node n more ∙ ap (λ r. r >> test_from (not is_node) more) fault

  -- what is left of a path, after the places that are spelt out while there is room
  pub record PlacesSpelt (start room : ℕ) (is_node : Bool) (all rest : List ℕ) (found : List Out) : Type 0 where
    pub tests : test_ids graph all ≡ test_from is_node rest
    pub counted : start - items_least (path_items graph all) ≡ room - items_least (shown_from is_node rest)
    pub shown : room ≢ 0 → path_items graph all ≡ outs_before found (shown_from is_node rest)

  module _ (start room : ℕ) where
    pub one_place_spelt : (next : ℕ) (is_node : Bool) (all rest more : List ℕ) (found : List Out) (n : ℕ) (out : Out) → PlacesSpelt start room is_node all rest found → rest ≡ n ∷ more
        → test_place graph is_node n ≡ Ok tt → next ≡ room - 1 - least (shown_place graph is_node n) → (next ≢ 0 → data_of out ≡ shown_place graph is_node n)
        → PlacesSpelt start next (not is_node) all more (found ++ out ∷ [])
    one_place_spelt next is_node all rest more found n out so_far is live left same = record {
      tests = place_tested is_node all rest more n so_far.tests is live;
      counted = so_far.counted ∙ ap (λ ids. room - items_least (shown_from is_node ids)) is
          ∙ ap (λ ds. room - items_least ds) (shown_step is_node n more)
          ∙ room_then room next (least (shown_place graph is_node n)) (items_least (shown_from (not is_node) more)) left;
      shown = λ some. so_far.shown (room_before room next (least (shown_place graph is_node n)) left some)
          ∙ ap (λ ids. outs_before found (shown_from is_node ids)) is
          ∙ ap (outs_before found) (shown_step is_node n more)
          ∙ ap (λ d. outs_before found (item d (shown_from (not is_node) more))) (sym (same some))
          ∙ sym (outs_before-push found out (shown_from (not is_node) more));
    }

    nothing_left : (is_node : Bool) → (test_from is_node [] ≡ Ok tt) × ((found : List Out) → outs_before found (shown_from is_node []) ≡ outs found) × (items_least (shown_from is_node []) ≡ 0)
    nothing_left true = (refl, outs_before-nothing, refl)
    nothing_left false = (refl, outs_before-nothing, refl)

    pub all_places_spelt : (is_node : Bool) (all rest : List ℕ) (found : List Out) → PlacesSpelt start room is_node all rest found → rest ≡ []
        → (test_ids graph all ≡ Ok tt) × (room ≡ start - items_least (path_items graph all)) × (room ≢ 0 → outs found ≡ path_items graph all)
    all_places_spelt is_node all rest found so_far is =
        let none : items_least (shown_from is_node rest) ≡ 0 = ap (λ ids. items_least (shown_from is_node ids)) is ∙ (nothing_left is_node).2 in (
          so_far.tests ∙ ap (test_from is_node) is ∙ (nothing_left is_node).0,
          omega (arith, so_far.counted, none),
          λ some. sym (so_far.shown some ∙ ap (λ ids. outs_before found (shown_from is_node ids)) is ∙ (nothing_left is_node).1 found),
        )

    pub one_place_refused : (is_node : Bool) (all rest more : List ℕ) (found : List Out) (n : ℕ) (e : Fault) → PlacesSpelt start room is_node all rest found → rest ≡ n ∷ more
        → test_place graph is_node n ≡ Err e → test_ids graph all ≡ Err e
    one_place_refused is_node all rest more found n e so_far is h =
        place_refused is_node all rest more n e so_far.tests is h
