use Rattle.std.proofs.Common.{fold, refl, sym, ap, ◌∙◌, string_bytes}
use Rattle.std.specs.Hash.{str}
use Rattle.pg_value_core.specs.Hashed.{hashed_items, hashed_entries}
use Rattle.pg_value_core.specs.View.{values_view, entries_view}
use Rattle.pg_value_core.proofs.Fed as lemma
use Rattle.pg_value_core.proofs.Forms as form
use Rattle.pg_value_core.proofs.hashes.+feed.Goals as goal

pub feed-returns-in-Null : goal.feed-returns-in-Null
feed-returns-in-Null g t c = lemma.of_form g.H.Hasher.write c.args.state.now c.write_u64.new.self c.rank.result c.args.value.now _ _ (form.null_seen c.in-Null.is) c.rank.ensures c.write_u64.ensures refl

pub feed-returns-in-Bool : goal.feed-returns-in-Bool
feed-returns-in-Bool g t c = c.hash.ensures ∙ lemma.of_form g.H.Hasher.write c.args.state.now c.write_u64.new.self c.rank.result c.args.value.now _ _ (form.bool_seen c.in-Bool.b c.in-Bool.is) c.rank.ensures c.write_u64.ensures refl

pub feed-returns-in-Text : goal.feed-returns-in-Text
feed-returns-in-Text g t c = c.hash-in-Text.ensures ∙ ap (λ s. fold g.H.Hasher.write c.write_u64.new.self (str s)) (c.as_str.ensures.value ∙ ap string_bytes c.as_ref.ensures) ∙ lemma.of_form g.H.Hasher.write c.args.state.now c.write_u64.new.self c.rank.result c.args.value.now _ _ (form.text_seen c.in-Text.text c.in-Text.is) c.rank.ensures c.write_u64.ensures refl

pub feed-returns-in-ShortText : goal.feed-returns-in-ShortText
feed-returns-in-ShortText g t c = c.hash-in-ShortText.ensures ∙ lemma.of_form g.H.Hasher.write c.args.state.now c.write_u64.new.self c.rank.result c.args.value.now _ _ (form.short_seen c.in-ShortText.text c.in-ShortText.is) c.rank.ensures c.write_u64.ensures refl

pub feed-returns-in-Node : goal.feed-returns-in-Node
feed-returns-in-Node g t c = c.write_u64-in-Node.ensures ∙ lemma.of_form g.H.Hasher.write c.args.state.now c.write_u64.new.self c.rank.result c.args.value.now _ _ (form.node_seen c.in-Node.id c.in-Node.is) c.rank.ensures c.write_u64.ensures refl

pub feed-returns-in-Rel : goal.feed-returns-in-Rel
feed-returns-in-Rel g t c = c.write_u64-in-Rel.ensures ∙ lemma.of_form g.H.Hasher.write c.args.state.now c.write_u64.new.self c.rank.result c.args.value.now _ _ (form.rel_seen c.in-Rel.id c.in-Rel.is) c.rank.ensures c.write_u64.ensures refl

pub feed-returns-in-Path : goal.feed-returns-in-Path
feed-returns-in-Path g t c = c.hash-in-Path.ensures ∙ lemma.of_form g.H.Hasher.write c.args.state.now c.write_u64.new.self c.rank.result c.args.value.now _ _ (form.path_seen c.in-Path.path c.in-Path.is) c.rank.ensures c.write_u64.ensures refl

pub feed_items-loop-item-preserved : goal.feed_items-loop-item-preserved
feed_items-loop-item-preserved g t c =
    let l = c.loop-item in
    lemma.item_fed g.H.Hasher.write l.state c.write_u64.new.self c.feed.new.state c.deref-item-items.result.now l.item-index c.item-item.result c.loop-item-test.true c.item-item.is c.write_u64.ensures c.feed.ensures ∙ l.invariant

pub feed_items-returns : goal.feed_items-returns
feed_items-returns g t c =
    let l = c.loop-item in
    lemma.items_fed g.H.Hasher.write l.state c.write_u64-2.new.self c.deref-item-items.result.now l.item-index c.loop-item-test.false c.write_u64-2.ensures ∙ l.invariant
    ∙ ap (λ vs. fold g.H.Hasher.write c.args.state.now (hashed_items (values_view vs))) c.deref-item-items.ensures.value

pub feed_entries-loop-key-init : goal.feed_entries-loop-key-init
feed_entries-loop-key-init g t c =
    ap (λ es. fold g.H.Hasher.write c.args.state.now (hashed_entries (entries_view es))) (c.into_iter-key-iterator.ensures.into_iter_gives ∙ c.iter-key-items.ensures.rest)

pub feed_entries-loop-key-preserved : goal.feed_entries-loop-key-preserved
feed_entries-loop-key-preserved g t c =
    let l = c.loop-key in
    let e = c.in-Some in
    lemma.entry_fed g.H.Hasher.write l.state c.write_u64.new.self c.hash.new.state c.feed.new.state l.key-iterator c.next.new.self e.key.now e.value.now e.ensures.steps c.write_u64.ensures c.hash.ensures c.feed.ensures ∙ l.invariant

pub feed_entries-returns : goal.feed_entries-returns
feed_entries-returns g t c =
    let l = c.loop-key in
    c.write_u64-2.ensures ∙ sym (ap (λ es. fold g.H.Hasher.write l.state (hashed_entries (entries_view es))) c.in-None.ensures.steps.0) ∙ l.invariant
