use Rattle.std.proofs.Common.{◌+◌, ◌<◌, ◌≤◌, length, drop, get_or, subst, sym, ap, ◌∙◌}
use Rattle.std.proofs.lemmas.List.{nil_from_length}
use Rattle.pg_meaning.specs.Equality.{items_eq3, entries_eq3}
use Rattle.pg_meaning.specs.Logic.{and3, tri_of}
use Rattle.pg_value_core.specs.View.{values_view, entries_view}
use Rattle.pg_value.proofs.Forms as form
use Rattle.pg_value_core.proofs.Forms as value
use Rattle.pg_value.proofs.Steps.{items_begun, items_step, items_over, items_left, items_done, entries_begun, entries_step, entries_differ, entries_over, entries_left, entries_done}
use Rattle.pg_value.proofs.Tables.{and_false}
use Rattle.pg_value.proofs.equality.+eq3.Goals as goal

pub eq3-returns-in-Bool-Bool : goal.eq3-returns-in-Bool-Bool
eq3-returns-in-Bool-Bool t c =
    let h = c.in-Bool-Bool in
    c.truth.ensures ∙ form.both_seen c.args.a.now c.args.b.now _ _ (value.bool_seen h.x h.is-0) (value.bool_seen h.y h.is-1)

pub eq3-returns-in-List-List : goal.eq3-returns-in-List-List
eq3-returns-in-List-List t c =
    let h = c.in-List-List in
    c.eq3_items.ensures
    ∙ ap (λ v. items_eq3 (values_view v.items) (values_view c.as_ref-in-List-List-2.result.now.items)) c.as_ref-in-List-List.ensures
    ∙ ap (λ v. items_eq3 (values_view h.xs.value.items) (values_view v.items)) c.as_ref-in-List-List-2.ensures
    ∙ form.both_seen c.args.a.now c.args.b.now _ _ (value.list_seen h.xs h.is-0) (value.list_seen h.ys h.is-1)

pub eq3-returns-in-Map-Map : goal.eq3-returns-in-Map-Map
eq3-returns-in-Map-Map t c =
    let h = c.in-Map-Map in
    c.eq3_entries.ensures
    ∙ ap (λ m. entries_eq3 (entries_view m.entries) (entries_view c.as_ref-in-Map-Map-2.result.now.entries)) c.as_ref-in-Map-Map.ensures
    ∙ ap (λ m. entries_eq3 (entries_view h.xs.value.entries) (entries_view m.entries)) c.as_ref-in-Map-Map-2.ensures
    ∙ form.both_seen c.args.a.now c.args.b.now _ _ (value.map_seen h.xs h.is-0) (value.map_seen h.ys h.is-1)

pub eq3-returns-in-Node-Node : goal.eq3-returns-in-Node-Node
eq3-returns-in-Node-Node t c =
    let h = c.in-Node-Node in
    c.truth-in-Node-Node.ensures ∙ form.both_seen c.args.a.now c.args.b.now _ _ (value.node_seen h.x h.is-0) (value.node_seen h.y h.is-1)

pub eq3-returns-in-Rel-Rel : goal.eq3-returns-in-Rel-Rel
eq3-returns-in-Rel-Rel t c =
    let h = c.in-Rel-Rel in
    c.truth-in-Rel-Rel.ensures ∙ form.both_seen c.args.a.now c.args.b.now _ _ (value.rel_seen h.x h.is-0) (value.rel_seen h.y h.is-1)

pub eq3-returns-in-Path-Path : goal.eq3-returns-in-Path-Path
eq3-returns-in-Path-Path t c =
    let h = c.in-Path-Path in
    c.truth-in-Path-Path.ensures ∙ ap tri_of c.eq-in-Path-Path.ensures ∙ form.both_seen c.args.a.now c.args.b.now _ _ (value.path_seen h.x h.is-0) (value.path_seen h.y h.is-1)

pub eq3-returns-in_default : goal.eq3-returns-in_default
eq3-returns-in_default t c = let h = c.in_default in form.other_bool c.args.b.now h.not-Null-1 c.args.a.now h.field-0-0 h.is-0 h.not-Bool-1

pub eq3-returns-in_default-2 : goal.eq3-returns-in_default-2
eq3-returns-in_default-2 t c = let h = c.in_default in form.other_int c.args.b.now h.not-Null-1 c.args.a.now h.field-0-0 h.is-0 h.not-Int-1

pub eq3-returns-in_default-3 : goal.eq3-returns-in_default-3
eq3-returns-in_default-3 t c = let h = c.in_default in form.other_text c.args.b.now h.not-Null-1 c.args.a.now h.field-0-0 h.is-0 h.not-Text-1 h.not-ShortText-1

pub eq3-returns-in_default-4 : goal.eq3-returns-in_default-4
eq3-returns-in_default-4 t c = let h = c.in_default in form.other_short c.args.b.now h.not-Null-1 c.args.a.now h.field-0-0 h.is-0 h.not-Text-1 h.not-ShortText-1

pub eq3-returns-in_default-5 : goal.eq3-returns-in_default-5
eq3-returns-in_default-5 t c = let h = c.in_default in form.other_list c.args.b.now h.not-Null-1 c.args.a.now h.field-0-0 h.is-0 h.not-List-1

pub eq3-returns-in_default-6 : goal.eq3-returns-in_default-6
eq3-returns-in_default-6 t c = let h = c.in_default in form.other_map c.args.b.now h.not-Null-1 c.args.a.now h.field-0-0 h.is-0 h.not-Map-1

pub eq3-returns-in_default-7 : goal.eq3-returns-in_default-7
eq3-returns-in_default-7 t c = let h = c.in_default in form.other_node c.args.b.now h.not-Null-1 c.args.a.now h.field-0-0 h.is-0 h.not-Node-1

pub eq3-returns-in_default-8 : goal.eq3-returns-in_default-8
eq3-returns-in_default-8 t c = let h = c.in_default in form.other_rel c.args.b.now h.not-Null-1 c.args.a.now h.field-0-0 h.is-0 h.not-Rel-1

pub eq3-returns-in_default-9 : goal.eq3-returns-in_default-9
eq3-returns-in_default-9 t c = let h = c.in_default in form.other_path c.args.b.now h.not-Null-1 c.args.a.now h.field-0-0 h.is-0 h.not-Path-1

pub eq3-returns-in-Null-default : goal.eq3-returns-in-Null-default
eq3-returns-in-Null-default t c = form.null_left c.args.a.now c.args.b.now c.in-Null-default.is-0

pub eq3-returns-in-Null-default-2 : goal.eq3-returns-in-Null-default-2
eq3-returns-in-Null-default-2 t c = form.null_right c.args.a.now c.args.b.now c.in-Null-default.is-1

pub eq3-returns-in-Null-default-3 : goal.eq3-returns-in-Null-default-3
eq3-returns-in-Null-default-3 t c = form.null_right c.args.a.now c.args.b.now c.in-Null-default.is-1

pub eq3-returns-in-Null-default-4 : goal.eq3-returns-in-Null-default-4
eq3-returns-in-Null-default-4 t c = form.null_right c.args.a.now c.args.b.now c.in-Null-default.is-1

pub eq3-returns-in-Null-default-5 : goal.eq3-returns-in-Null-default-5
eq3-returns-in-Null-default-5 t c = form.null_right c.args.a.now c.args.b.now c.in-Null-default.is-1

pub eq3-returns-in-Null-default-6 : goal.eq3-returns-in-Null-default-6
eq3-returns-in-Null-default-6 t c = form.null_right c.args.a.now c.args.b.now c.in-Null-default.is-1

pub eq3-returns-in-Null-default-7 : goal.eq3-returns-in-Null-default-7
eq3-returns-in-Null-default-7 t c = form.null_right c.args.a.now c.args.b.now c.in-Null-default.is-1

pub eq3-returns-in-Null-default-8 : goal.eq3-returns-in-Null-default-8
eq3-returns-in-Null-default-8 t c = form.null_right c.args.a.now c.args.b.now c.in-Null-default.is-1

pub eq3-returns-in-Null-default-9 : goal.eq3-returns-in-Null-default-9
eq3-returns-in-Null-default-9 t c = form.null_right c.args.a.now c.args.b.now c.in-Null-default.is-1

pub eq3_items-loop-x-init : goal.eq3_items-loop-x-init
eq3_items-loop-x-init t c = items_begun c.args.xs.now.items c.args.ys.now.items c.as_slice-others.result.now c.as_slice-others.ensures.value

pub eq3_items-returns-in_default : goal.eq3_items-returns-in_default
eq3_items-returns-in_default t c =
    let l = c.loop-x in
    let items = c.deref-x-items.ensures.value in
    let inside : l.x-index < length c.args.xs.now.items = subst (λ xs. l.x-index < length xs) items c.loop-x-test.true in
    items_over l.all c.args.xs.now.items l.others.now l.x-index c.x-item.result inside (c.x-item.is ∙ ap (λ xs. get_or xs l.x-index c.x-item.result) items) (nil_from_length l.others.now c.in_default.ensures.cases)
    ∙ l.invariant

pub eq3_items-loop-x-preserved : goal.eq3_items-loop-x-preserved
eq3_items-loop-x-preserved t c =
    let l = c.loop-x in
    let items = c.deref-x-items.ensures.value in
    let inside : l.x-index < length c.args.xs.now.items = subst (λ xs. l.x-index < length xs) items c.loop-x-test.true in
    items_step l.all c.and-all.result c.args.xs.now.items l.others.now c.in-Some.rest.now l.x-index c.x-item.result c.in-Some.y.now inside (c.x-item.is ∙ ap (λ xs. get_or xs l.x-index c.x-item.result) items) c.in-Some.ensures.cases.0 (c.and-all.ensures ∙ ap (and3 l.all) c.eq3.ensures)
    ∙ l.invariant

pub eq3_items-returns-in-False : goal.eq3_items-returns-in-False
eq3_items-returns-in-False t c =
    let l = c.loop-x in
    let items = c.deref-x-items.ensures.value in
    let inside : l.x-index < length c.args.xs.now.items = subst (λ xs. l.x-index < length xs) items c.loop-x-test.true in
    let left = items_eq3 (values_view (drop (l.x-index + 1) c.args.xs.now.items)) (values_view c.in-Some.rest.now) in
    sym (and_false left) ∙ ap (λ all. and3 all left) (sym c.in-False.is)
    ∙ items_step l.all c.and-all.result c.args.xs.now.items l.others.now c.in-Some.rest.now l.x-index c.x-item.result c.in-Some.y.now inside (c.x-item.is ∙ ap (λ xs. get_or xs l.x-index c.x-item.result) items) c.in-Some.ensures.cases.0 (c.and-all.ensures ∙ ap (and3 l.all) c.eq3.ensures)
    ∙ l.invariant

pub eq3_items-returns-in-Some-split_first : goal.eq3_items-returns-in-Some-split_first
eq3_items-returns-in-Some-split_first t c =
    let l = c.loop-x in
    let s = c.in-Some-split_first in
    let outside = subst (λ xs. length xs ≤ l.x-index) c.deref-x-items.ensures.value c.loop-x-test.false in
    items_left l.all c.args.xs.now.items l.others.now s.field-0.1.now l.x-index s.field-0.0.now outside s.ensures.cases.0 ∙ l.invariant

pub eq3_items-returns-in-None : goal.eq3_items-returns-in-None
eq3_items-returns-in-None t c =
    let l = c.loop-x in
    let outside = subst (λ xs. length xs ≤ l.x-index) c.deref-x-items.ensures.value c.loop-x-test.false in
    items_done l.all c.args.xs.now.items l.others.now l.x-index outside (nil_from_length l.others.now c.in-None.ensures.cases) ∙ l.invariant

pub eq3_entries-loop-key-init : goal.eq3_entries-loop-key-init
eq3_entries-loop-key-init t c =
    entries_begun c.args.xs.now.entries c.args.ys.now.entries c.into_iter-key-iterator.result c.iter-others.result (c.into_iter-key-iterator.ensures.into_iter_gives ∙ c.iter-key-items.ensures.rest) c.iter-others.ensures.rest

pub eq3_entries-returns-in_default : goal.eq3_entries-returns-in_default
eq3_entries-returns-in_default t c =
    let l = c.loop-key in
    let a = c.in-Some in
    entries_over l.all a.key.now a.x.now l.key-iterator l.others c.next.new.self a.ensures.steps c.in_default.ensures.steps.0 ∙ l.invariant

pub eq3_entries-returns-in-Some-next-2 : goal.eq3_entries-returns-in-Some-next-2
eq3_entries-returns-in-Some-next-2 t c =
    let l = c.loop-key in
    let b = c.in-Some-next-2 in
    entries_left l.all b.field-0.0.now b.field-0.1.now l.key-iterator l.others c.next-2.new.self c.in-None.ensures.steps.0 b.ensures.steps ∙ l.invariant

pub eq3_entries-returns-in-None-next : goal.eq3_entries-returns-in-None-next
eq3_entries-returns-in-None-next t c =
    let l = c.loop-key in
    entries_done l.all l.key-iterator l.others c.in-None.ensures.steps.0 c.in-None-next.ensures.steps.0 ∙ l.invariant

pub eq3_entries-returns-then-ne : goal.eq3_entries-returns-then-ne
eq3_entries-returns-then-ne t c =
    let l = c.loop-key in
    let a = c.in-Some in
    let b = c.in-Some-next in
    entries_differ l.all a.key.now b.other.now a.x.now b.y.now l.key-iterator l.others c.next.new.self c.next-in-loop-key.new.self a.ensures.steps b.ensures.steps (sym c.ne.ensures ∙ c.if-ne.true) ∙ l.invariant

pub eq3_entries-loop-key-preserved : goal.eq3_entries-loop-key-preserved
eq3_entries-loop-key-preserved t c =
    let l = c.loop-key in
    let a = c.in-Some in
    let b = c.in-Some-next in
    entries_step l.all c.and-all.result a.key.now b.other.now a.x.now b.y.now l.key-iterator l.others c.next.new.self c.next-in-loop-key.new.self a.ensures.steps b.ensures.steps (sym c.ne.ensures ∙ c.if-ne.false) (c.and-all.ensures ∙ ap (and3 l.all) c.eq3.ensures) ∙ l.invariant

pub eq3_entries-returns-in-False : goal.eq3_entries-returns-in-False
eq3_entries-returns-in-False t c =
    let l = c.loop-key in
    let a = c.in-Some in
    let b = c.in-Some-next in
    let left = entries_eq3 (entries_view c.next.new.self) (entries_view c.next-in-loop-key.new.self) in
    sym (and_false left) ∙ ap (λ all. and3 all left) (sym c.in-False.is)
    ∙ entries_step l.all c.and-all.result a.key.now b.other.now a.x.now b.y.now l.key-iterator l.others c.next.new.self c.next-in-loop-key.new.self a.ensures.steps b.ensures.steps (sym c.ne.ensures ∙ c.if-ne.false) (c.and-all.ensures ∙ ap (and3 l.all) c.eq3.ensures) ∙ l.invariant
