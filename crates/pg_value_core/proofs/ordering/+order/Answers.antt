use Rattle.std.proofs.Common.{◌+◌, ◌<◌, ◌≤◌, [], ◌∷◌, length, drop, get_or, subst, sym, ap, ◌∙◌}
use Rattle.std.proofs.lemmas.List.{nil_from_length}
use Rattle.pg_meaning.specs.Order.{entries_order, items_order, rank_of, value_order}
use Rattle.pg_meaning.specs.Value.{mapping}
use Rattle.std.specs.Ordering.{nat_cmp}
use Rattle.pg_value_core.specs.View.{view, values_view, entries_view}
use Rattle.pg_value_core.proofs.Forms as form
use Rattle.pg_value_core.proofs.Orders as lemma
use Rattle.pg_value_core.proofs.ordering.+order.Goals as goal

pub order_maps-returns-in-Equal : goal.order_maps-returns-in-Equal
order_maps-returns-in-Equal t c =
    c.order_entries.ensures ∙ lemma.then_second (entries_order (entries_view c.args.xs.now.entries) (entries_view c.args.ys.now.entries)) c.order_keys.ensures c.in-Equal.is

pub order_maps-returns-in_default : goal.order_maps-returns-in_default
order_maps-returns-in_default t c =
    lemma.then_first (entries_order (entries_view c.args.xs.now.entries) (entries_view c.args.ys.now.entries)) c.order_keys.ensures c.in_default.not-Equal

pub order_any-returns-in-Map-Map : goal.order_any-returns-in-Map-Map
order_any-returns-in-Map-Map t c =
    let h = c.in-Map-Map in
    c.order_maps.ensures
    ∙ ap (λ m. value_order (mapping (entries_view m.entries)) (mapping (entries_view c.as_ref-in-Map-Map.result.now.entries))) c.as_ref.ensures
    ∙ ap (λ m. value_order (mapping (entries_view h.xs.value.entries)) (mapping (entries_view m.entries))) c.as_ref-in-Map-Map.ensures
    ∙ lemma.both_seen c.args.a.now c.args.b.now _ _ (form.map_seen h.xs h.is-0) (form.map_seen h.ys h.is-1)

pub order_any-returns-in-Node-Node : goal.order_any-returns-in-Node-Node
order_any-returns-in-Node-Node t c =
    let h = c.in-Node-Node in
    c.cmp.ensures ∙ lemma.both_seen c.args.a.now c.args.b.now _ _ (form.node_seen h.x h.is-0) (form.node_seen h.y h.is-1)

pub order_any-returns-in-Rel-Rel : goal.order_any-returns-in-Rel-Rel
order_any-returns-in-Rel-Rel t c =
    let h = c.in-Rel-Rel in
    c.cmp-in-Rel-Rel.ensures ∙ lemma.both_seen c.args.a.now c.args.b.now _ _ (form.rel_seen h.x h.is-0) (form.rel_seen h.y h.is-1)

pub order_any-returns-in-Path-Path : goal.order_any-returns-in-Path-Path
order_any-returns-in-Path-Path t c =
    let h = c.in-Path-Path in
    c.cmp-in-Path-Path.ensures ∙ lemma.both_seen c.args.a.now c.args.b.now _ _ (form.path_seen h.x h.is-0) (form.path_seen h.y h.is-1)

pub order_any-returns-in-ShortText-ShortText : goal.order_any-returns-in-ShortText-ShortText
order_any-returns-in-ShortText-ShortText t c =
    let h = c.in-ShortText-ShortText in
    c.cmp-in-ShortText-ShortText.ensures ∙ lemma.both_seen c.args.a.now c.args.b.now _ _ (form.short_seen h.x h.is-0) (form.short_seen h.y h.is-1)

pub order_any-returns-in-Bool-Bool : goal.order_any-returns-in-Bool-Bool
order_any-returns-in-Bool-Bool t c =
    let h = c.in-Bool-Bool in
    c.cmp-in-Bool-Bool.ensures ∙ lemma.both_seen c.args.a.now c.args.b.now _ _ (form.bool_seen h.x h.is-0) (form.bool_seen h.y h.is-1)

pub order_any-returns-in-Int-Int : goal.order_any-returns-in-Int-Int
order_any-returns-in-Int-Int t c =
    let h = c.in-Int-Int in
    c.cmp-in-Int-Int.ensures ∙ lemma.both_seen c.args.a.now c.args.b.now _ _ (form.int_seen h.x h.is-0) (form.int_seen h.y h.is-1)

pub order_any-returns-in_default : goal.order_any-returns-in_default
order_any-returns-in_default t c =
    let a = c.args.a.now in
    let b = c.args.b.now in
    c.cmp-in_default.ensures ∙ ap (λ m. nat_cmp m c.rank-in_default.result) c.rank.ensures ∙ ap (nat_cmp (rank_of (view a))) c.rank-in_default.ensures
    ∙ elim c.in_default.branch [
      | goal.order_any-in_default-via-in-Map+in_default w ↦ lemma.other_map b a w.in_default.field-0-0 w.in_default.is-0 w.in_default.not-Map-1
      | goal.order_any-in_default-via-in-Node+in_default w ↦ lemma.other_node b a w.in_default.field-0-0 w.in_default.is-0 w.in_default.not-Node-1
      | goal.order_any-in_default-via-in-Rel+in_default w ↦ lemma.other_rel b a w.in_default.field-0-0 w.in_default.is-0 w.in_default.not-Rel-1
      | goal.order_any-in_default-via-in-List+in_default w ↦ lemma.other_list b a w.in_default.field-0-0 w.in_default.is-0 w.in_default.not-List-1
      | goal.order_any-in_default-via-in-Path+in_default w ↦ lemma.other_path b a w.in_default.field-0-0 w.in_default.is-0 w.in_default.not-Path-1
      | goal.order_any-in_default-via-in-Text+in_default w ↦ lemma.other_text b a w.in_default.field-0-0 w.in_default.is-0 w.in_default.not-Text-1 w.in_default.not-ShortText-1
      | goal.order_any-in_default-via-in-ShortText+in_default w ↦ lemma.other_short b a w.in_default.field-0-0 w.in_default.is-0 w.in_default.not-Text-1 w.in_default.not-ShortText-1
      | goal.order_any-in_default-via-in-Bool+in_default w ↦ lemma.other_bool b a w.in_default.field-0-0 w.in_default.is-0 w.in_default.not-Bool-1
      | goal.order_any-in_default-via-in-Int+in_default w ↦ lemma.other_int b a w.in_default.field-0-0 w.in_default.is-0 w.in_default.not-Int-1
      | goal.order_any-in_default-via-in_default w ↦ lemma.of_null b a w.in_default.is-0
    ]

pub order_items-loop-x-init : goal.order_items-loop-x-init
order_items-loop-x-init t c = ap (λ ys. items_order (values_view c.args.xs.now.items) (values_view ys)) c.as_slice-others.ensures.value

pub order_items-returns-in_default : goal.order_items-returns-in_default
order_items-returns-in_default t c =
    let l = c.loop-x in
    let inside : l.x-index < length c.args.xs.now.items = subst (λ xs. l.x-index < length xs) c.deref-x-items.ensures.value c.loop-x-test.true in
    lemma.items_over c.args.xs.now.items l.x-index l.others.now c.x-item.result inside (nil_from_length l.others.now c.in_default.ensures.cases) ∙ l.invariant

pub order_items-returns-in_default-order_any : goal.order_items-returns-in_default-order_any
order_items-returns-in_default-order_any t c =
    let l = c.loop-x in
    let xs = c.args.xs.now.items in
    let items = c.deref-x-items.ensures.value in
    let inside : l.x-index < length xs = subst (λ vs. l.x-index < length vs) items c.loop-x-test.true in
    let left = items_order (values_view (drop (l.x-index + 1) xs)) (values_view c.in-Some.rest.now) in
    lemma.then_first left c.order_any.ensures c.in_default-order_any.not-Equal
    ∙ lemma.items_step xs l.x-index l.others.now c.in-Some.rest.now c.x-item.result c.in-Some.y.now inside (c.x-item.is ∙ ap (λ vs. get_or vs l.x-index c.x-item.result) items) c.in-Some.ensures.cases.0
    ∙ l.invariant

pub order_items-loop-x-preserved : goal.order_items-loop-x-preserved
order_items-loop-x-preserved t c =
    let l = c.loop-x in
    let xs = c.args.xs.now.items in
    let items = c.deref-x-items.ensures.value in
    let inside : l.x-index < length xs = subst (λ vs. l.x-index < length vs) items c.loop-x-test.true in
    let left = items_order (values_view (drop (l.x-index + 1) xs)) (values_view c.in-Some.rest.now) in
    lemma.then_second left c.order_any.ensures c.in-Equal.is
    ∙ lemma.items_step xs l.x-index l.others.now c.in-Some.rest.now c.x-item.result c.in-Some.y.now inside (c.x-item.is ∙ ap (λ vs. get_or vs l.x-index c.x-item.result) items) c.in-Some.ensures.cases.0
    ∙ l.invariant

pub order_items-returns-in-Some-split_first : goal.order_items-returns-in-Some-split_first
order_items-returns-in-Some-split_first t c =
    let l = c.loop-x in
    let s = c.in-Some-split_first in
    let outside = subst (λ xs. length xs ≤ l.x-index) c.deref-x-items.ensures.value c.loop-x-test.false in
    lemma.items_left c.args.xs.now.items l.x-index l.others.now s.field-0.1.now s.field-0.0.now outside s.ensures.cases.0 ∙ l.invariant

pub order_items-returns-in-None : goal.order_items-returns-in-None
order_items-returns-in-None t c =
    let l = c.loop-x in
    let outside = subst (λ xs. length xs ≤ l.x-index) c.deref-x-items.ensures.value c.loop-x-test.false in
    lemma.items_done c.args.xs.now.items l.x-index l.others.now outside (nil_from_length l.others.now c.in-None.ensures.cases) ∙ l.invariant

pub order_entries-loop-x-init : goal.order_entries-loop-x-init
order_entries-loop-x-init t c =
    sym (lemma.entries_are c.args.xs.now.entries c.args.ys.now.entries (c.into_iter-x-iterator.ensures.into_iter_gives ∙ c.iter-x-items.ensures.rest) c.iter-others.ensures.rest)

pub order_entries-returns-in_default : goal.order_entries-returns-in_default
order_entries-returns-in_default t c =
    let a = c.in-Some in
    lemma.entries_are ((a.field-0-0.now, a.x.now) ∷ c.next.new.self) [] a.ensures.steps c.in_default.ensures.steps.0 ∙ c.loop-x.invariant

pub order_entries-returns-in_default-order_any : goal.order_entries-returns-in_default-order_any
order_entries-returns-in_default-order_any t c =
    let a = c.in-Some in
    let b = c.in-Some-next in
    let left = entries_order (entries_view c.next.new.self) (entries_view c.next-in-loop-x.new.self) in
    lemma.then_first left c.order_any.ensures c.in_default-order_any.not-Equal
    ∙ lemma.entries_are ((a.field-0-0.now, a.x.now) ∷ c.next.new.self) ((b.field-0-0.now, b.y.now) ∷ c.next-in-loop-x.new.self) a.ensures.steps b.ensures.steps ∙ c.loop-x.invariant

pub order_entries-loop-x-preserved : goal.order_entries-loop-x-preserved
order_entries-loop-x-preserved t c =
    let a = c.in-Some in
    let b = c.in-Some-next in
    let left = entries_order (entries_view c.next.new.self) (entries_view c.next-in-loop-x.new.self) in
    lemma.then_second left c.order_any.ensures c.in-Equal.is
    ∙ lemma.entries_are ((a.field-0-0.now, a.x.now) ∷ c.next.new.self) ((b.field-0-0.now, b.y.now) ∷ c.next-in-loop-x.new.self) a.ensures.steps b.ensures.steps ∙ c.loop-x.invariant

pub order_entries-returns-in-Some-next-2 : goal.order_entries-returns-in-Some-next-2
order_entries-returns-in-Some-next-2 t c =
    let b = c.in-Some-next-2 in
    lemma.entries_are [] ((b.field-0.0.now, b.field-0.1.now) ∷ c.next-2.new.self) c.in-None.ensures.steps.0 b.ensures.steps ∙ c.loop-x.invariant

pub order_entries-returns-in-None-next : goal.order_entries-returns-in-None-next
order_entries-returns-in-None-next t c = lemma.entries_are [] [] c.in-None.ensures.steps.0 c.in-None-next.ensures.steps.0 ∙ c.loop-x.invariant
