use Rattle.std.proofs.Common.{◌≡◌, Ok, Err, refl, sym, ap, ◌∙◌}
use Rattle.std.proofs.lemmas.Result.{IfOk-from_err}
use Rattle.pg_expr.proofs.ExitLemmas.{fault_passed}
use Rattle.pg_meaning.specs.Updates.{mapping_pairs, set_pairs}
use Rattle.pg_meaning.specs.declared.fault.Fault.TheVariants.{OutOfMemory}
use Rattle.pg_store.specs.Stores.{pairs_of}
use Rattle.pg_value_core.specs.View.{view}
use Rattle.pg_write.proofs.PartLemmas.{value_refused, map_refused, entries_refused, map_set, pairs_read}
use Rattle.pg_write.specs.Parts.{put_map}
use Rattle.pg_write.specs.Targets.{target_view}
use Rattle.pg_write_make.specs.Scenes.{given}
use Rattle.pg_write.proofs.setting.set_map.Goals as goal

pub returns-in_err-value : goal.returns-in_err-value
returns-in_err-value g c =
    let graph = c.args.live.now.graph in
    let read = given c.args.scene.now graph c.args.row.now c.args.value.now in
    let change = put_map c.args.is_whole in
    let set = set_pairs graph mapping_pairs change read (target_view c.args.target) in
    record {
      ok = IfOk-from_err c.from_residual.result (λ u. set ≡ Ok graph) c.from_residual.ensures.0;
      err =
          fault_passed set c.in_err-value.field-0.0 c.from_residual.result c.from_residual.ensures.1
          (λ other. value_refused graph mapping_pairs change (target_view c.args.target) read c.in_err-value.field-0.0
          (ap (λ read. given c.args.scene.now read c.args.row.now c.args.value.now) (sym c.graph.ensures.is) ∙ c.in_err-value.ensures.err other));
      aside = refl;
    }

pub returns-in_err-keys : goal.returns-in_err-keys
returns-in_err-keys g c =
    let graph = c.args.live.now.graph in
    let read = given c.args.scene.now graph c.args.row.now c.args.value.now in
    let change = put_map c.args.is_whole in
    let target = target_view c.args.target in
    let set = set_pairs graph mapping_pairs change read target in
    let is = ap (λ read. given c.args.scene.now read c.args.row.now c.args.value.now) (sym c.graph.ensures.is) ∙ c.in_ok-value.ensures.ok in
    let result = c.from_residual-in_err-keys in
    record {
      ok = IfOk-from_err result.result (λ u. set ≡ Ok graph) result.ensures.0;
      err = fault_passed set c.in_err-keys.field-0.0 result.result result.ensures.1 (λ other. map_refused graph mapping_pairs change target read c.in_err-keys.field-0.0 (pairs_read graph mapping_pairs change target read (view c.in_ok-value.value) (Err c.in_err-keys.field-0.0) is (c.in_err-keys.ensures.err other)));
      aside = refl;
    }

pub returns-in_err-pairs : goal.returns-in_err-pairs
returns-in_err-pairs g c =
    let graph = c.args.live.now.graph in
    let read = given c.args.scene.now graph c.args.row.now c.args.value.now in
    let change = put_map c.args.is_whole in
    let target = target_view c.args.target in
    let set = set_pairs graph mapping_pairs change read target in
    let result = c.from_residual-in_err-pairs in
    record {
      ok = IfOk-from_err result.result (λ u. set ≡ Ok graph) result.ensures.0;
      err = fault_passed set OutOfMemory result.result result.ensures.1 (λ other. absurd (other refl));
      aside = refl;
    }

pub returns-in_err-test_storable : goal.returns-in_err-test_storable
returns-in_err-test_storable g c =
    let graph = c.args.live.now.graph in
    let read = given c.args.scene.now graph c.args.row.now c.args.value.now in
    let change = put_map c.args.is_whole in
    let target = target_view c.args.target in
    let set = set_pairs graph mapping_pairs change read target in
    let pairs = pairs_of c.in_ok-pairs.pairs.items in
    let is = ap (λ read. given c.args.scene.now read c.args.row.now c.args.value.now) (sym c.graph.ensures.is) ∙ c.in_ok-value.ensures.ok in
    let are = pairs_read graph mapping_pairs change target read (view c.in_ok-value.value) (Ok pairs) is (c.in_ok-keys.ensures.ok ∙ ap Ok (sym c.in_ok-pairs.ensures)) in
    let result = c.from_residual-in_err-test_storable in
    record {
      ok = IfOk-from_err result.result (λ u. set ≡ Ok graph) result.ensures.0;
      err =
          fault_passed set c.in_err-test_storable.field-0.0 result.result result.ensures.1
          (λ other. entries_refused graph mapping_pairs change target read pairs c.in_err-test_storable.field-0.0 are c.in_err-test_storable.ensures.err);
      aside = refl;
    }

pub put_properties-requires : goal.put_properties-requires
put_properties-requires g c = record { there = c.requires.there }

pub returns-in_err-put_properties : goal.returns-in_err-put_properties
returns-in_err-put_properties g c =
    let graph = c.args.live.now.graph in
    let set = set_pairs graph mapping_pairs (put_map c.args.is_whole) (given c.args.scene.now graph c.args.row.now c.args.value.now) (target_view c.args.target) in
    let result = c.from_residual-in_err-put_properties in
    record {
      ok = IfOk-from_err result.result (λ u. set ≡ Ok c.put_properties.new.live.graph) result.ensures.0;
      err = fault_passed set OutOfMemory result.result result.ensures.1 (λ other. absurd (other refl));
      aside = c.put_properties.ensures.aside;
    }

pub returns : goal.returns
returns g c =
    let graph = c.args.live.now.graph in
    let read = given c.args.scene.now graph c.args.row.now c.args.value.now in
    let change = put_map c.args.is_whole in
    let target = target_view c.args.target in
    let pairs = pairs_of c.in_ok-pairs.pairs.items in
    let is = ap (λ read. given c.args.scene.now read c.args.row.now c.args.value.now) (sym c.graph.ensures.is) ∙ c.in_ok-value.ensures.ok in
    let are = pairs_read graph mapping_pairs change target read (view c.in_ok-value.value) (Ok pairs) is (c.in_ok-keys.ensures.ok ∙ ap Ok (sym c.in_ok-pairs.ensures)) in
    record {
      ok = map_set graph mapping_pairs change target read pairs are c.in_ok-test_storable.ensures.ok ∙ ap Ok c.in_ok-put_properties.ensures.ok;
      err = tt;
      aside = c.put_properties.ensures.aside;
    }
