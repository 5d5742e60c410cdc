use Rattle.std.proofs.Common.{◌≡◌, ◌<◌, ◌≤◌, ◌-◌, ◌+◌, ◌++◌, ◌∷◌, [], ℕ, suc, None, length, take, drop, slice_set, slice_index_or, arith, sym, ap, subst, ◌∙◌}
use Rattle.std.proofs.lemmas.List.{length-set, length-take-le, take-set-le}
use Rattle.std.proofs.lemmas.List.Edits.{length-swap}
use Rattle.std.specs.List.{AllByRecursion}
use Rattle.pg_graph.proofs.Merging.{all_at, below_key, entry_moved, key_placed, rises_before, rises_up_to, swap_take, take_less, take_one_more}
use Rattle.pg_graph.proofs.places.merge_blanks.Goals as goal
use Rattle.pg_graph.proofs.places.merge_blanks.Goals.{else-before-gt0-via-then-before-gt0+else-number, else-before-gt0-via-else-before-gt0}
use Rattle.pg_graph.specs.Records.{value_in, with_blank_entries}
use Rattle.pg_value_core.specs.View.{view}
use Rattle.pg_value_core.specs.declared.value.Value.{Value}
use Rattle.pg_value_core.specs.declared.value.Value.TheVariants.{Null}

pub loop-left-preserved-then-number : goal.loop-left-preserved-then-number
loop-left-preserved-then-number c =
    let l = c.loop-left in
    let was = l.invariant in
    let es = take c.args.count c.args.entries.now.items in
    let keys = c.args.keys.now in
    let items = l.entries.items in
    let b = l.before - 1 in
    let p = l.left - 1 in
    let e = c.index.result.now in
    let key = c.index-keys-left.result in
    let one : l.before ≡ suc b = omega (arith, c.if-before-gt0.true) in
    let last : l.left ≡ suc p = omega (arith, c.loop-left-test.true) in
    let room : l.before + l.left ≤ length items = omega (arith, was.room, was.before, was.left) in
    let low : slice_index_or keys p key < (slice_index_or items b e).0 = subst (λ (k : ℕ). k < (slice_index_or items b e).0) c.index-keys-left.is (subst (λ (x : ℕ × Value). key < x.0) c.index.ensures (omega (arith, c.if-number.true, c.number.ensures, c.number-then-before-gt0.ensures))) in
    let all = subst (λ m. AllByRecursion (λ k. k < (slice_index_or items b e).0) (take m keys)) (sym last) (rises_up_to (λ k. k) keys p (slice_index_or items b e).0 key c.requires.rising (omega (arith, last, was.left)) low) in
    record {
      before = omega (arith, was.before);
      left = was.left;
      room = ap length c.swap.ensures.items ∙ length-swap items b (b + l.left) ∙ was.room;
      front = ap (take b) c.swap.ensures.items ∙ swap_take items b (b + l.left) (omega arith) ∙ take_less b l.before items es (omega arith) was.front;
      merged = ap (λ xs. with_blank_entries (take b es) (take l.left keys) ++ drop (b + l.left) xs) c.swap.ensures.items
          ∙ entry_moved Null es items keys l.before b l.left e one c.loop-left-test.true room was.front all ∙ was.merged;
    }

pub loop-left-preserved : goal.loop-left-preserved
loop-left-preserved c =
    let l = c.loop-left in
    let was = l.invariant in
    let es = take c.args.count c.args.entries.now.items in
    let keys = c.args.keys.now in
    let items = l.entries.items in
    let p = l.left - 1 in
    let key = c.index-keys-left.result in
    let last : l.left ≡ suc p = omega (arith, c.loop-left-test.true) in
    let room : l.before + l.left ≤ length items = omega (arith, was.room, was.before, was.left) in
    let inside : p < length keys = omega (arith, last, was.left) in
    let absent : value_in es key ≡ None = subst (λ (k : ℕ). value_in es k ≡ None) (sym c.index-keys-left.is) (all_at (λ k. k) (λ k. value_in es k ≡ None) keys p key c.requires.absent inside) in
    let keys_are = take_one_more keys p l.left key last inside ∙ ap (λ k. take p keys ++ k ∷ []) (sym c.index-keys-left.is) in
    let less : AllByRecursion (λ q. q < key) (take p keys) = subst (λ (k : ℕ). AllByRecursion (λ q. q < k) (take p keys)) (sym c.index-keys-left.is) (rises_before (λ k. k) keys p key c.requires.rising inside) in
    let low : AllByRecursion (λ (e : ℕ × Value). e.0 < key) (take l.before es) = elim c.else-before-gt0.branch [
      | else-before-gt0-via-then-before-gt0+else-number w ↦
          below_key view es items l.before (l.before - 1) key w.index.result.now (omega (arith, w.if-before-gt0.true)) (omega (arith, was.before, length-take-le c.args.count c.args.entries.now.items (omega (arith, c.requires.room)))) was.front c.requires.entries
          (subst (λ (x : ℕ × Value). x.0 ≤ key) w.index.ensures (omega (arith, w.if-number.false, w.number.ensures, w.number-then-before-gt0.ensures))) absent
      | else-before-gt0-via-else-before-gt0 w ↦ subst (λ m. AllByRecursion (λ (e : ℕ × Value). e.0 < key) (take m es)) (sym (none_before l.before w.if-before-gt0.false)) tt
    ] in
    record {
      before = was.before;
      left = omega (arith, was.left);
      room = length-set items (l.before + p) c.replace.new.dest ∙ was.room;
      front = take-set-le l.before items (l.before + p) c.replace.new.dest (omega arith) ∙ was.front;
      merged = ap (λ e. with_blank_entries (take l.before es) (take p keys) ++ drop (l.before + p) (slice_set items (l.before + p) e)) c.replace.ensures.after
          ∙ key_placed Null es items keys l.before p l.left key last room keys_are low less ∙ was.merged;
    }
  where
    none_before : (n : ℕ) → n ≤ 0 → n ≡ 0
    none_before n h = omega arith
