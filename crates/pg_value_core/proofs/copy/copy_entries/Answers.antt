use Rattle.std.proofs.Common.{◌≡◌, [], ◌∷◌, ◌++◌, append-nil, string_bytes, sym, ap, ◌∙◌, subst, append_assoc}
use Rattle.std.proofs.lemmas.Result.{IfOk-from_err}
use Rattle.std.specs.List.Sorted.{IsStrictlySortedBy}
use Rattle.std.specs.Map.{keys_of}
use Rattle.std.specs.String.{string_cmp}
use Rattle.pg_value_core.specs.View.{entries_view}
use Rattle.pg_value_core.proofs.Maps.{Pair, entries_view-insert_entry, put_last}
use Rattle.pg_value_core.proofs.copy.copy_entries.Goals as goal

pub loop-key-preserved : goal.loop-key-preserved
loop-key-preserved c =
    let l = c.loop-key in
    let done = l.invariant.0 in
    let e : Pair = (c.in-Some.key.now, c.in-Some.value.now) in
    let left = c.next.new.self in
    let all : c.args.entries.now.entries ≡ done ++ e ∷ left = l.invariant.1 ∙ ap (λ es. done ++ es) c.in-Some.ensures.steps in
    let last = put_last done e left (subst (λ es. IsStrictlySortedBy string_cmp (keys_of es)) all c.iter-key-items.ensures.ordered) in
    let named : string_bytes c.in_ok-name.name ≡ string_bytes e.0 = c.in_ok-name.ensures.ok ∙ c.as_str.ensures.value in (
      done ++ e ∷ [],
      all ∙ sym (append_assoc done (e ∷ []) left),
      ap entries_view c.in_ok-insert.ensures.entries ∙ entries_view-insert_entry l.copies.entries c.in_ok-name.name c.in_ok-same.same ∙ rw (named, c.in_ok-same.ensures, l.invariant.2) last,
    )

pub loop-key-init : goal.loop-key-init
loop-key-init c = ([], sym (c.into_iter-key-iterator.ensures.into_iter_gives ∙ c.iter-key-items.ensures.rest), ap entries_view c.new-copies.ensures.empty)

pub returns : goal.returns
returns c =
    let done = c.loop-key.invariant.0 in
    c.loop-key.invariant.2 ∙ ap entries_view (sym (c.loop-key.invariant.1 ∙ ap (λ es. done ++ es) c.in-None.ensures.steps.0 ∙ append-nil done))

pub returns-in_err-name : goal.returns-in_err-name
returns-in_err-name c = IfOk-from_err c.from_residual.result _ c.from_residual.ensures.0

pub returns-in_err-same : goal.returns-in_err-same
returns-in_err-same c = IfOk-from_err c.from_residual-in_err-same.result _ c.from_residual-in_err-same.ensures.0

pub returns-in_err-insert : goal.returns-in_err-insert
returns-in_err-insert c = IfOk-from_err c.from_residual-in_err-insert.result _ c.from_residual-in_err-insert.ensures.0
