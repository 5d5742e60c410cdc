use Rattle.std.proofs.lemmas.List.{drop_more}
use Rattle.std.proofs.lemmas.Result.{IfOk-from_err}
use Rattle.std.proofs.Common.{◌≡◌, ◌≢◌, string_bytes, rules, ◌+◌, ◌-◌, drop, arith, Some, None, [], ◌∷◌, ◌++◌, refl, sym, ap, subst, ◌∙◌, append_assoc, append-nil}
use Rattle.std.specs.List.Sorted.{IsStrictlySortedBy}
use Rattle.std.specs.Map.{keys_of}
use Rattle.std.specs.String.{string_cmp}
use Rattle.serde_json.specs.View.{items_view, members_view}
use Rattle.serde_json.proofs.Views.{Entry}
use Rattle.pg_meaning.specs.Entries.{with_entry}
use Rattle.pg_meaning.specs.Value.{text}
use Rattle.pg_json.specs.Given.{values_within, entries_within}
use Rattle.pg_json.proofs.Converting.{one_more_value, no_value, all_values, after, one_more_entry, refused_entries, no_room, null_within, bool_within, text_within, list_within, list_refused}
use Rattle.pg_value_core.specs.View.{view, entries_view}
use Rattle.pg_json.proofs.Exits.{fault_passed}
use Rattle.pg_meaning.specs.declared.fault.Fault.TheVariants.{BadRequest, OutOfMemory}
use Rattle.serde_json.specs.View.{view as data_view}
use Rattle.pg_json.specs.Given.{value_within}
use Rattle.pg_json.proofs.values.+convert.Goals as goal

pub entries_from-loop-key-preserved : goal.entries_from-loop-key-preserved
entries_from-loop-key-preserved t c =
    let l = c.loop-key in
    let room = c.args.room in
    let done = l.invariant.0 in
    let e : Entry = (c.in-Some.key.now, c.in-Some.given.now) in
    let left = c.next.new.self in
    let all : c.args.members.now.entries ≡ done ++ e ∷ left = l.invariant.1 ∙ ap (λ es. done ++ es) c.in-Some.ensures.steps in
    let sorted = subst (λ es. IsStrictlySortedBy string_cmp (keys_of es)) all c.iter-key-items.ensures.ordered in
    let last = one_more_entry room done e left (entries_view l.entries.entries) (view c.in_ok-value.value) sorted l.invariant.2 c.in_ok-value.ensures.ok in (
      done ++ e ∷ [],
      all ∙ sym (append_assoc done (e ∷ []) left),
      last ∙ ap Some (ap (λ k. with_entry k (view c.in_ok-value.value) (entries_view l.entries.entries)) (sym c.as_str.ensures.value) ∙ sym c.in_ok-enter.ensures),
    )

pub entries_from-returns-clause-ok : goal.entries_from-returns-clause-ok
entries_from-returns-clause-ok t c =
    let l = c.loop-key in
    let all : c.args.members.now.entries ≡ l.invariant.0 = l.invariant.1 ∙ ap (λ es. l.invariant.0 ++ es) c.in-None.ensures.steps.0 ∙ append-nil l.invariant.0 in
    ap (λ es. entries_within c.args.room (members_view es)) all ∙ l.invariant.2

pub value_from-loop-item-preserved : goal.value_from-loop-item-preserved
value_from-loop-item-preserved t c =
    let l = c.loop-item in
    let room = c.args.room - 1 in
    let xs = c.deref-item-items.result.now in
    let x = c.item-item.result in
    let here : drop l.item-index xs ≡ x ∷ drop (l.item-index + 1) xs = drop_more xs l.item-index x (omega arith) ∙ ap (λ y. y ∷ drop (l.item-index + 1) xs) (sym c.item-item.is) in
    let v = c.in_ok-value-in-Array.value in
    l.invariant
    ∙ one_more_value room l.values.items x (drop l.item-index xs) (drop (l.item-index + 1) xs) v here c.in_ok-value-in-Array.ensures.ok
    ∙ ap (λ vs. after vs (values_within room (items_view (drop (l.item-index + 1) xs)))) (sym c.in_ok-push-in-Array.ensures.items)

pub value_from-returns-in_err-value-in-Array-clause-refused : goal.value_from-returns-in_err-value-in-Array-clause-refused
value_from-returns-in_err-value-in-Array-clause-refused t c =
    let l = c.loop-item in
    let room = c.args.room - 1 in
    let xs = c.deref-item-items.result.now in
    let x = c.item-item.result in
    let here : drop l.item-index xs ≡ x ∷ drop (l.item-index + 1) xs = drop_more xs l.item-index x (omega arith) ∙ ap (λ y. y ∷ drop (l.item-index + 1) xs) (sym c.item-item.is) in
    let same : c.in-Array.items.items ≡ xs = sym c.deref-item-items.ensures.value in
    fault_passed (λ e. e ≢ OutOfMemory → value_within c.args.room (data_view c.args.given.now) ≡ None) c.in_err-value-in-Array.field-0.0 c.from_residual-in_err-value-in-Array.result c.from_residual-in_err-value-in-Array.ensures.1
    (λ other. rw c.in-Array.is (list_refused c.args.room c.if-room-eq0.false c.in-Array.items
    (ap (λ ys. values_within room (items_view ys)) same ∙ l.invariant ∙ no_value room l.values.items x (drop l.item-index xs) (drop (l.item-index + 1) xs) here (c.in_err-value-in-Array.ensures.refused other))))

pub entries_from-returns-in_err-value-clause-refused : goal.entries_from-returns-in_err-value-clause-refused
entries_from-returns-in_err-value-clause-refused t c =
    let l = c.loop-key in
    let e : Entry = (c.in-Some.key.now, c.in-Some.given.now) in
    let left = c.next.new.self in
    let all : c.args.members.now.entries ≡ l.invariant.0 ++ e ∷ left = l.invariant.1 ∙ ap (λ es. l.invariant.0 ++ es) c.in-Some.ensures.steps in
    fault_passed (λ e. e ≢ OutOfMemory → entries_within c.args.room (members_view c.args.members.now.entries) ≡ None) c.in_err-value.field-0.0 c.from_residual.result c.from_residual.ensures.1
    (λ other. ap (λ es. entries_within c.args.room (members_view es)) all ∙ refused_entries c.args.room l.invariant.0 e left (c.in_err-value.ensures.refused other))

pub entries_from-returns-in_err-value-clause-ok : goal.entries_from-returns-in_err-value-clause-ok
entries_from-returns-in_err-value-clause-ok t c = IfOk-from_err c.from_residual.result _ c.from_residual.ensures.0

pub entries_from-returns-in_err-value-clause-kind : goal.entries_from-returns-in_err-value-clause-kind
entries_from-returns-in_err-value-clause-kind t c = fault_passed (λ e. e ≢ OutOfMemory → e ≡ BadRequest) c.in_err-value.field-0.0 c.from_residual.result c.from_residual.ensures.1 c.in_err-value.ensures.kind

pub entries_from-returns-in_err-enter-clause-ok : goal.entries_from-returns-in_err-enter-clause-ok
entries_from-returns-in_err-enter-clause-ok t c = IfOk-from_err c.from_residual-in_err-enter.result _ c.from_residual-in_err-enter.ensures.0

pub entries_from-returns-in_err-enter-clause-kind : goal.entries_from-returns-in_err-enter-clause-kind
entries_from-returns-in_err-enter-clause-kind t c = fault_passed (λ e. e ≢ OutOfMemory → e ≡ BadRequest) OutOfMemory c.from_residual-in_err-enter.result c.from_residual-in_err-enter.ensures.1 (λ other. absurd (other refl))

pub entries_from-returns-in_err-enter-clause-refused : goal.entries_from-returns-in_err-enter-clause-refused
entries_from-returns-in_err-enter-clause-refused t c = fault_passed (λ e. e ≢ OutOfMemory → entries_within c.args.room (members_view c.args.members.now.entries) ≡ None) OutOfMemory c.from_residual-in_err-enter.result c.from_residual-in_err-enter.ensures.1 (λ other. absurd (other refl))

pub value_from-returns-in_err-values-in-Array-clause-ok : goal.value_from-returns-in_err-values-in-Array-clause-ok
value_from-returns-in_err-values-in-Array-clause-ok t c = IfOk-from_err c.from_residual-in_err-values-in-Array.result _ c.from_residual-in_err-values-in-Array.ensures.0

pub value_from-returns-in_err-values-in-Array-clause-kind : goal.value_from-returns-in_err-values-in-Array-clause-kind
value_from-returns-in_err-values-in-Array-clause-kind t c = fault_passed (λ e. e ≢ OutOfMemory → e ≡ BadRequest) OutOfMemory c.from_residual-in_err-values-in-Array.result c.from_residual-in_err-values-in-Array.ensures.1 (λ other. absurd (other refl))

pub value_from-returns-in_err-values-in-Array-clause-refused : goal.value_from-returns-in_err-values-in-Array-clause-refused
value_from-returns-in_err-values-in-Array-clause-refused t c = fault_passed (λ e. e ≢ OutOfMemory → value_within c.args.room (data_view c.args.given.now) ≡ None) OutOfMemory c.from_residual-in_err-values-in-Array.result c.from_residual-in_err-values-in-Array.ensures.1 (λ other. absurd (other refl))

pub value_from-returns-in_err-value-in-Array-clause-ok : goal.value_from-returns-in_err-value-in-Array-clause-ok
value_from-returns-in_err-value-in-Array-clause-ok t c = IfOk-from_err c.from_residual-in_err-value-in-Array.result _ c.from_residual-in_err-value-in-Array.ensures.0

pub value_from-returns-in_err-value-in-Array-clause-kind : goal.value_from-returns-in_err-value-in-Array-clause-kind
value_from-returns-in_err-value-in-Array-clause-kind t c = fault_passed (λ e. e ≢ OutOfMemory → e ≡ BadRequest) c.in_err-value-in-Array.field-0.0 c.from_residual-in_err-value-in-Array.result c.from_residual-in_err-value-in-Array.ensures.1 c.in_err-value-in-Array.ensures.kind

pub value_from-returns-in_err-push-in-Array-clause-ok : goal.value_from-returns-in_err-push-in-Array-clause-ok
value_from-returns-in_err-push-in-Array-clause-ok t c = IfOk-from_err c.from_residual-in_err-push-in-Array.result _ c.from_residual-in_err-push-in-Array.ensures.0

pub value_from-returns-in_err-push-in-Array-clause-kind : goal.value_from-returns-in_err-push-in-Array-clause-kind
value_from-returns-in_err-push-in-Array-clause-kind t c = fault_passed (λ e. e ≢ OutOfMemory → e ≡ BadRequest) OutOfMemory c.from_residual-in_err-push-in-Array.result c.from_residual-in_err-push-in-Array.ensures.1 (λ other. absurd (other refl))

pub value_from-returns-in_err-push-in-Array-clause-refused : goal.value_from-returns-in_err-push-in-Array-clause-refused
value_from-returns-in_err-push-in-Array-clause-refused t c = fault_passed (λ e. e ≢ OutOfMemory → value_within c.args.room (data_view c.args.given.now) ≡ None) OutOfMemory c.from_residual-in_err-push-in-Array.result c.from_residual-in_err-push-in-Array.ensures.1 (λ other. absurd (other refl))

pub value_from-returns-in_err-text-in-String-clause-ok : goal.value_from-returns-in_err-text-in-String-clause-ok
value_from-returns-in_err-text-in-String-clause-ok t c = IfOk-from_err c.from_residual.result _ c.from_residual.ensures.0

pub value_from-returns-in_err-text-in-String-clause-kind : goal.value_from-returns-in_err-text-in-String-clause-kind
value_from-returns-in_err-text-in-String-clause-kind t c = fault_passed (λ e. e ≢ OutOfMemory → e ≡ BadRequest) OutOfMemory c.from_residual.result c.from_residual.ensures.1 (λ other. absurd (other refl))

pub value_from-returns-in_err-text-in-String-clause-refused : goal.value_from-returns-in_err-text-in-String-clause-refused
value_from-returns-in_err-text-in-String-clause-refused t c = fault_passed (λ e. e ≢ OutOfMemory → value_within c.args.room (data_view c.args.given.now) ≡ None) OutOfMemory c.from_residual.result c.from_residual.ensures.1 (λ other. absurd (other refl))

pub value_from-returns-in_ok-list-in-Array-clause-ok : goal.value_from-returns-in_ok-list-in-Array-clause-ok
value_from-returns-in_ok-list-in-Array-clause-ok t c =
    let l = c.loop-item in
    let room = c.args.room - 1 in
    let xs = c.deref-item-items.result.now in
    let same : c.in-Array.items.items ≡ xs = sym c.deref-item-items.ensures.value in
    rw c.in-Array.is (list_within c.args.room c.if-room-eq0.false c.in-Array.items l.values.items c.in_ok-list-in-Array.field-0 c.in_ok-list-in-Array.ensures
    (ap (λ ys. values_within room (items_view ys)) same ∙ l.invariant ∙ all_values room l.values.items l.item-index xs c.loop-item-test.false))

pub value_from-returns-then-room-eq0-clause-refused : goal.value_from-returns-then-room-eq0-clause-refused
value_from-returns-then-room-eq0-clause-refused t c other = ap (λ n. value_within n (data_view c.args.given.now)) c.if-room-eq0.true ∙ no_room (data_view c.args.given.now)

pub value_from-returns-in-Null-clause-ok : goal.value_from-returns-in-Null-clause-ok
value_from-returns-in-Null-clause-ok t c = rw c.in-Null.is (null_within c.args.room c.if-room-eq0.false)

pub value_from-returns-in-Bool-clause-ok : goal.value_from-returns-in-Bool-clause-ok
value_from-returns-in-Bool-clause-ok t c = rw c.in-Bool.is (bool_within c.args.room c.if-room-eq0.false c.in-Bool.b)

pub value_from-returns-in_ok-text-in-String-clause-ok : goal.value_from-returns-in_ok-text-in-String-clause-ok
value_from-returns-in_ok-text-in-String-clause-ok t c =
    rw c.in-String.is (text_within c.args.room c.if-room-eq0.false c.in-String.text (view c.in_ok-text-in-String.field-0) (c.in_ok-text-in-String.ensures ∙ ap text c.as_str.ensures.value))
