use Rattle.std.proofs.Common.{◌≡◌, ◌≢◌, ◌+◌, None, drop, map, string_bytes, ap, sym, ◌∙◌}
use Rattle.std.proofs.lemmas.Result.{IfOk-from_err}
use Rattle.serde_json.specs.View.{view, items_view}
use Rattle.pg_server.specs.Draft.{each, name_of}
use Rattle.pg_server.specs.declared.config_fault.ConfigFault.TheVariants.{WrongShape, Memory}
use Rattle.pg_server.proofs.FoundLemmas.{pushed, behind, none_found_yet, one_more_found, none_of_all, all_found, item_here, none_left, fault_passed, memory_passed}
use Rattle.pg_server.proofs.draft.names_of.Goals as goal

pub loop-item-init : goal.loop-item-init
loop-item-init c =
    none_found_yet (each name_of (items_view c.args.items.now.items)) ∙ sym (ap (λ ts. behind (map string_bytes ts) (each name_of (items_view c.args.items.now.items))) c.new-names.ensures.items)

pub returns-in_err-name_of-clause-ok : goal.returns-in_err-name_of-clause-ok
returns-in_err-name_of-clause-ok c = IfOk-from_err c.from_residual.result _ c.from_residual.ensures.0

pub returns-in_err-name_of-clause-kind : goal.returns-in_err-name_of-clause-kind
returns-in_err-name_of-clause-kind c =
    fault_passed (λ e. e ≢ Memory → e ≡ WrongShape) c.in_err-name_of.field-0.0 c.from_residual.result c.from_residual.ensures.1 c.in_err-name_of.ensures.kind

pub returns-in_err-name_of-clause-refused : goal.returns-in_err-name_of-clause-refused
returns-in_err-name_of-clause-refused c =
    let l = c.loop-item in
    let items = c.args.items.now.items in
    let here = item_here c.deref-item-items.result.now items l.item-index c.item-item.result c.deref-item-items.ensures.value c.loop-item-test.true c.item-item.is in
    fault_passed (λ e. e ≢ Memory → each name_of (items_view items) ≡ None) c.in_err-name_of.field-0.0 c.from_residual.result c.from_residual.ensures.1
    (λ other. none_of_all (map string_bytes l.names.items) (name_of (view c.item-item.result)) (each name_of (items_view (drop (l.item-index + 1) items))) (each name_of (items_view items)) (c.in_err-name_of.ensures.refused other)
    (l.invariant ∙ ap (λ vs. behind (map string_bytes l.names.items) (each name_of (items_view vs))) here))

pub returns-in_err-push-clause-ok : goal.returns-in_err-push-clause-ok
returns-in_err-push-clause-ok c = IfOk-from_err c.from_residual-in_err-push.result _ c.from_residual-in_err-push.ensures.0

pub returns-in_err-push-clause-kind : goal.returns-in_err-push-clause-kind
returns-in_err-push-clause-kind c = memory_passed (λ e. e ≡ WrongShape) c.from_residual-in_err-push.result c.from_residual-in_err-push.ensures.1

pub returns-in_err-push-clause-refused : goal.returns-in_err-push-clause-refused
returns-in_err-push-clause-refused c = memory_passed (λ e. each name_of (items_view c.args.items.now.items) ≡ None) c.from_residual-in_err-push.result c.from_residual-in_err-push.ensures.1

pub loop-item-preserved : goal.loop-item-preserved
loop-item-preserved c =
    let l = c.loop-item in
    let items = c.args.items.now.items in
    let here = item_here c.deref-item-items.result.now items l.item-index c.item-item.result c.deref-item-items.ensures.value c.loop-item-test.true c.item-item.is in
    one_more_found (map string_bytes l.names.items) (map string_bytes c.push.new.self.items) (string_bytes c.in_ok-name_of.field-0) (name_of (view c.item-item.result)) (each name_of (items_view (drop (l.item-index + 1) items))) (each name_of (items_view items))
    c.in_ok-name_of.ensures.ok (pushed string_bytes l.names.items c.push.new.self.items c.in_ok-name_of.field-0 c.in_ok-push.ensures.items) (l.invariant ∙ ap (λ vs. behind (map string_bytes l.names.items) (each name_of (items_view vs))) here)

pub returns-clause-ok : goal.returns-clause-ok
returns-clause-ok c =
    let l = c.loop-item in
    let items = c.args.items.now.items in
    let none = none_left c.deref-item-items.result.now items l.item-index c.deref-item-items.ensures.value c.loop-item-test.false in
    all_found (map string_bytes l.names.items) (each name_of (items_view (drop l.item-index items))) (each name_of (items_view items)) (ap (λ vs. each name_of (items_view vs)) none) l.invariant
