use Rattle.std.proofs.Common.{◌≡◌, ◌++◌, ◌∷◌, [], Ok, refl, sym, ap, ◌∙◌}
use Rattle.std.proofs.lemmas.Result.{IfOk-from_err}
use Rattle.std.specs.Prelude.{string_bytes}
use Rattle.pg_expr.proofs.ExitLemmas.{fault_passed}
use Rattle.pg_meaning.specs.Entries.{set_keys}
use Rattle.pg_meaning.specs.Updates.{set_pairs}
use Rattle.pg_meaning.specs.declared.fault.Fault.TheVariants.{OutOfMemory}
use Rattle.pg_store.specs.Stores.{pairs_of}
use Rattle.pg_value_core.specs.View.{view}
use Rattle.pg_write.proofs.PartLemmas.{value_refused, entries_refused, map_set, pairs_read}
use Rattle.pg_write.specs.Parts.{one_pair}
use Rattle.pg_write.specs.Targets.{target_view}
use Rattle.pg_write_make.specs.Scenes.{given}
use Rattle.pg_write.proofs.setting.set_key.Goals as goal

pub returns-in_err-value : goal.returns-in_err-value
returns-in_err-value g c =
    let graph = c.args.live.now.graph in
    let one = one_pair (string_bytes c.args.key.now.text) in
    let read = given c.args.scene.now graph c.args.row.now c.args.value.now in
    let target = target_view c.args.target in
    let set = set_pairs graph one set_keys read target in
    record {
      ok = IfOk-from_err c.from_residual.result (λ u. set ≡ Ok graph) c.from_residual.ensures.0;
      err =
          fault_passed set c.in_err-value.field-0.0 c.from_residual.result c.from_residual.ensures.1
          (λ other. value_refused graph one set_keys target read c.in_err-value.field-0.0
          (ap (λ read. given c.args.scene.now read c.args.row.now c.args.value.now) (sym c.graph.ensures.is) ∙ c.in_err-value.ensures.err other));
      aside = refl;
    }

pub returns-in_err-pairs : goal.returns-in_err-pairs
returns-in_err-pairs g c =
    let graph = c.args.live.now.graph in
    let one = one_pair (string_bytes c.args.key.now.text) in
    let read = given c.args.scene.now graph c.args.row.now c.args.value.now in
    let target = target_view c.args.target in
    let set = set_pairs graph one set_keys read target in
    let result = c.from_residual-in_err-pairs in
    record {
      ok = IfOk-from_err result.result (λ u. set ≡ Ok graph) result.ensures.0;
      err = fault_passed set OutOfMemory result.result result.ensures.1 (λ other. absurd (other refl));
      aside = refl;
    }

pub returns-in_err-push : goal.returns-in_err-push
returns-in_err-push g c =
    let graph = c.args.live.now.graph in
    let one = one_pair (string_bytes c.args.key.now.text) in
    let read = given c.args.scene.now graph c.args.row.now c.args.value.now in
    let target = target_view c.args.target in
    let set = set_pairs graph one set_keys read target in
    let result = c.from_residual-in_err-push in
    record {
      ok = IfOk-from_err result.result (λ u. set ≡ Ok graph) result.ensures.0;
      err = fault_passed set OutOfMemory result.result result.ensures.1 (λ other. absurd (other refl));
      aside = refl;
    }

pub returns-in_err-test_storable : goal.returns-in_err-test_storable
returns-in_err-test_storable g c =
    let graph = c.args.live.now.graph in
    let one = one_pair (string_bytes c.args.key.now.text) in
    let read = given c.args.scene.now graph c.args.row.now c.args.value.now in
    let target = target_view c.args.target in
    let set = set_pairs graph one set_keys read target in
    let is = ap (λ read. given c.args.scene.now read c.args.row.now c.args.value.now) (sym c.graph.ensures.is) ∙ c.in_ok-value.ensures.ok in
    let value = c.in_ok-value.value in
    let pairs = pairs_of c.push.new.self.items in
    let same =
    ap pairs_of c.in_ok-push.ensures.items ∙ ap (λ ps. pairs_of (ps ++ (c.as_str.result, value) ∷ [])) c.in_ok-pairs.ensures.items ∙ ap (λ key. (key, view value) ∷ []) c.as_str.ensures.value in
    let are = pairs_read graph one set_keys target read (view value) (Ok pairs) is (ap Ok (sym same)) in
    let result = c.from_residual-in_err-test_storable in
    record {
      ok = IfOk-from_err result.result (λ u. set ≡ Ok graph) result.ensures.0;
      err =
          fault_passed set c.in_err-test_storable.field-0.0 result.result result.ensures.1
          (λ other. entries_refused graph one set_keys target read pairs c.in_err-test_storable.field-0.0 are c.in_err-test_storable.ensures.err);
      aside = refl;
    }

pub put_properties-requires : goal.put_properties-requires
put_properties-requires g c = record { there = c.requires.there }

pub returns-in_err-put_properties : goal.returns-in_err-put_properties
returns-in_err-put_properties g c =
    let graph = c.args.live.now.graph in
    let one = one_pair (string_bytes c.args.key.now.text) in
    let read = given c.args.scene.now graph c.args.row.now c.args.value.now in
    let target = target_view c.args.target in
    let set = set_pairs graph one set_keys read target in
    let result = c.from_residual-in_err-put_properties in
    record {
      ok = IfOk-from_err result.result (λ u. set ≡ Ok c.put_properties.new.live.graph) result.ensures.0;
      err = fault_passed set OutOfMemory result.result result.ensures.1 (λ other. absurd (other refl));
      aside = c.put_properties.ensures.aside;
    }

pub returns : goal.returns
returns g c =
    let graph = c.args.live.now.graph in
    let one = one_pair (string_bytes c.args.key.now.text) in
    let read = given c.args.scene.now graph c.args.row.now c.args.value.now in
    let target = target_view c.args.target in
    let is = ap (λ read. given c.args.scene.now read c.args.row.now c.args.value.now) (sym c.graph.ensures.is) ∙ c.in_ok-value.ensures.ok in
    let value = c.in_ok-value.value in
    let pairs = pairs_of c.push.new.self.items in
    let same =
    ap pairs_of c.in_ok-push.ensures.items ∙ ap (λ ps. pairs_of (ps ++ (c.as_str.result, value) ∷ [])) c.in_ok-pairs.ensures.items ∙ ap (λ key. (key, view value) ∷ []) c.as_str.ensures.value in
    let are = pairs_read graph one set_keys target read (view value) (Ok pairs) is (ap Ok (sym same)) in
    record {
      ok = map_set graph one set_keys target read pairs are c.in_ok-test_storable.ensures.ok ∙ ap Ok c.in_ok-put_properties.ensures.ok;
      err = tt;
      aside = c.put_properties.ensures.aside;
    }
