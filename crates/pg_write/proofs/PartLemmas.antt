-- The definitions of SET and REMOVE, from what their parts give.
use Rattle.std.proofs.Common.{◌≡◌, ◌≢◌, ℕ, true, false, List, Result, Ok, Err, refl, ap, ◌∙◌}
use Rattle.pg_meaning.specs.Answer.{Answer, ◌>>=◌, ◌>>◌}
use Rattle.pg_meaning.specs.Graph.{Graph}
use Rattle.pg_meaning.specs.Rows.{Row}
use Rattle.pg_meaning.specs.Tree as tree
use Rattle.pg_meaning.specs.Updates.{Target, nothing, is_nothing, target_of, on_target, set_item, set_pairs, test_storable, change_properties}
use Rattle.pg_meaning.specs.Value.{Value, Entries}
use Rattle.pg_meaning.specs.declared.fault.Fault.{Fault}
use Rattle.pg_write.specs.Items.{item_with, changed_by}
use Rattle.pg_write.specs.Parts.{storable_pairs}
use Rattle.pg_write.specs.Targets.{target_view}
use Rattle.pg_write_make.specs.Scenes.{reading}
use Rattle.pg_write.specs.declared.items.ReadyChange.{ReadyChange}
use Rattle.pg_write.specs.declared.items.ReadyChange.TheVariants.{Key, Map, Labels}
use Rattle.pg_write.specs.declared.targets.Target.{Target as Code}
use Rattle.pg_write.specs.declared.targets.Target.TheVariants.{Nothing, Node, Rel}

abbrev pub Pairs : Type 0
Pairs = List (List ℕ × Value)

-- the pairs behind the test
abbrev pub tested : Pairs → Result Pairs Fault
tested pairs = test_storable pairs >> Ok pairs

module _ (graph : Graph) (pairs_of : Value → Result Pairs Fault) (change : Pairs → Entries → Entries) (target : Target) where
  abbrev applied : Pairs → Result Graph Fault
  applied pairs = Ok (change_properties (change pairs) target graph)

  by_test : (r : Result (Unit {0}) Fault) (pairs : Pairs) → (r >> applied pairs) ≡ ((r >> Ok pairs) >>= applied)
  by_test (Ok u) pairs = refl
  by_test (Err e) pairs = refl

  by_pairs : (r : Result Pairs Fault) → (r >>= λ pairs. test_storable pairs >> applied pairs) ≡ ((r >>= tested) >>= applied)
  by_pairs (Ok pairs) = by_test (test_storable pairs) pairs
  by_pairs (Err e) = refl

  set_by_pairs : (value : Answer) → set_pairs graph pairs_of change value target ≡ (storable_pairs pairs_of value >>= applied)
  set_by_pairs (Ok v) = by_pairs (pairs_of v)
  set_by_pairs (Err e) = refl

  pub pairs_set : (value : Answer) (pairs : Pairs) → storable_pairs pairs_of value ≡ Ok pairs → set_pairs graph pairs_of change value target ≡ Ok (change_properties (change pairs) target graph)
  pairs_set value pairs is = set_by_pairs value ∙ ap (λ r. r >>= applied) is

  pub pairs_refused : (value : Answer) (e : Fault) → storable_pairs pairs_of value ≡ Err e → set_pairs graph pairs_of change value target ≡ Err e
  pairs_refused value e is = set_by_pairs value ∙ ap (λ r. r >>= applied) is

  pub value_refused : (value : Answer) (e : Fault) → value ≡ Err e → set_pairs graph pairs_of change value target ≡ Err e
  value_refused value e is = pairs_refused value e (ap (storable_pairs pairs_of) is)

  pub pairs_read : (value : Answer) (v : Value) (r : Result Pairs Fault) → value ≡ Ok v → pairs_of v ≡ r → (value >>= pairs_of) ≡ r
  pairs_read value v r is gives = ap (λ a. a >>= pairs_of) is ∙ gives

  joined : (value : Answer) → storable_pairs pairs_of value ≡ ((value >>= pairs_of) >>= tested)
  joined (Ok v) = refl
  joined (Err e) = refl

  pub map_set : (value : Answer) (pairs : Pairs) → (value >>= pairs_of) ≡ Ok pairs → test_storable pairs ≡ Ok tt → set_pairs graph pairs_of change value target ≡ Ok (change_properties (change pairs) target graph)
  map_set value pairs is ok = pairs_set value pairs (joined value ∙ ap (λ r. r >>= tested) is ∙ ap (λ r. r >> Ok pairs) ok)

  pub map_refused : (value : Answer) (e : Fault) → (value >>= pairs_of) ≡ Err e → set_pairs graph pairs_of change value target ≡ Err e
  map_refused value e is = pairs_refused value e (joined value ∙ ap (λ r. r >>= tested) is)

  pub entries_refused : (value : Answer) (pairs : Pairs) (e : Fault) → (value >>= pairs_of) ≡ Ok pairs → test_storable pairs ≡ Err e → set_pairs graph pairs_of change value target ≡ Err e
  entries_refused value pairs e is err = pairs_refused value e (joined value ∙ ap (λ r. r >>= tested) is ∙ ap (λ r. r >> Ok pairs) err)

-- ---- an item, from its target

module _ (names : List (List ℕ)) (parameters : Entries) (row : Row) (graph : Graph) (n : tree.Name) where
  item_is : (c : ReadyChange) → set_item (reading parameters) row graph (item_with names n c) ≡ on_target graph row n (changed_by names parameters row graph c)
  item_is (Key k v) = refl
  item_is (Map v true) = refl
  item_is (Map v false) = refl
  item_is (Labels ls) = refl

  abbrev on_found : (Target → Result Graph Fault) → Target → Result Graph Fault
  on_found f target = elim (is_nothing target) [ true ↦ Ok graph | false ↦ f target ]

  pub nothing_set : (c : ReadyChange) → target_of graph row n ≡ Ok nothing → set_item (reading parameters) row graph (item_with names n c) ≡ Ok graph
  nothing_set c is = item_is c ∙ ap (λ r. r >>= on_found (changed_by names parameters row graph c)) is

  pub target_set : (c : ReadyChange) (target : Target) → target_of graph row n ≡ Ok target → is_nothing target ≡ false → set_item (reading parameters) row graph (item_with names n c) ≡ changed_by names parameters row graph c target
  target_set c target is there =
      item_is c ∙ ap (λ r. r >>= on_found (changed_by names parameters row graph c)) is
      ∙ ap (λ b. elim b [ true ↦ Ok graph | false ↦ changed_by names parameters row graph c target ]) there

  pub target_refused : (c : ReadyChange) (e : Fault) → target_of graph row n ≡ Err e → set_item (reading parameters) row graph (item_with names n c) ≡ Err e
  target_refused c e is = item_is c ∙ ap (λ r. r >>= on_found (changed_by names parameters row graph c)) is

-- ---- the target

pub not_nothing : (t : Code) → t ≢ Nothing → is_nothing (target_view t) ≡ false
not_nothing Nothing h = absurd (h refl)
not_nothing (Node id) h = refl
not_nothing (Rel id) h = refl
