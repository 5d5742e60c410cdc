use Rattle.std.proofs.Common.{ℕ, slice_set, Ok, Err, Some, sym, ap, subst, ◌∙◌}
use Rattle.pg_graph.specs.Records.{AreEntries}
use Rattle.pg_graph.specs.Sorted.{IsPlace}
use Rattle.pg_graph.proofs.Entries.{get_found, get_missing}
use Rattle.pg_graph.proofs.SortedLists.{put_found, put_missing, put_rises}
use Rattle.pg_value_core.specs.View.{view}
use Rattle.pg_value_core.specs.declared.value.Value.{Value}
use Rattle.pg_graph.proofs.properties.exchange_entry.Goals as goal

pub returns-in-Ok-clause-ok : goal.returns-in-Ok-clause-ok
returns-in-Ok-clause-ok c =
    let items = c.args.entries.now.items in
    let at : IsPlace (λ e. e.0) c.args.key items (Ok c.in-Ok.i) =
    subst (λ k. IsPlace (λ e. e.0) k items (Ok c.in-Ok.i)) c.number.ensures (subst (λ xs. IsPlace (λ e. e.0) c.number.result xs (Ok c.in-Ok.i)) c.as_slice.ensures.value c.in-Ok.ensures) in
    ap (slice_set items c.in-Ok.i) c.replace-before.ensures.after
    ∙ sym (put_found (λ e. e.0) (c.args.key, c.args.value) items c.in-Ok.i c.requires at.0 at.1)

pub returns-in-Ok-clause-before : goal.returns-in-Ok-clause-before
returns-in-Ok-clause-before c =
    let items = c.args.entries.now.items in
    let at : IsPlace (λ e. e.0) c.args.key items (Ok c.in-Ok.i) =
    subst (λ k. IsPlace (λ e. e.0) k items (Ok c.in-Ok.i)) c.number.ensures (subst (λ xs. IsPlace (λ e. e.0) c.number.result xs (Ok c.in-Ok.i)) c.as_slice.ensures.value c.in-Ok.ensures) in
    ap (λ (e : ℕ × Value). Some (view e.1)) (c.replace-before.ensures.value ∙ c.index_mut.ensures.value)
    ∙ sym (get_found view c.args.key items c.in-Ok.i _ c.requires at.0 at.1)

pub returns-in-Ok-clause-entries : goal.returns-in-Ok-clause-entries
returns-in-Ok-clause-entries c =
    let items = c.args.entries.now.items in
    subst AreEntries (sym (returns-in-Ok-clause-ok c)) (put_rises (λ e. e.0) (c.args.key, c.args.value) items c.requires)

pub returns-in_ok-insert-in-Err-clause-ok : goal.returns-in_ok-insert-in-Err-clause-ok
returns-in_ok-insert-in-Err-clause-ok c =
    let items = c.args.entries.now.items in
    let at : IsPlace (λ e. e.0) c.args.key items (Err c.in-Err.i) =
    subst (λ k. IsPlace (λ e. e.0) k items (Err c.in-Err.i)) c.number.ensures (subst (λ xs. IsPlace (λ e. e.0) c.number.result xs (Err c.in-Err.i)) c.as_slice.ensures.value c.in-Err.ensures) in
    c.in_ok-insert-in-Err.ensures.items ∙ sym (put_missing (λ e. e.0) (c.args.key, c.args.value) items c.in-Err.i at.0 at.1)

pub returns-in_ok-insert-in-Err-clause-before : goal.returns-in_ok-insert-in-Err-clause-before
returns-in_ok-insert-in-Err-clause-before c =
    let items = c.args.entries.now.items in
    let at : IsPlace (λ e. e.0) c.args.key items (Err c.in-Err.i) =
    subst (λ k. IsPlace (λ e. e.0) k items (Err c.in-Err.i)) c.number.ensures (subst (λ xs. IsPlace (λ e. e.0) c.number.result xs (Err c.in-Err.i)) c.as_slice.ensures.value c.in-Err.ensures) in
    sym (get_missing view c.args.key items c.in-Err.i c.requires at.1)

pub returns-in_ok-insert-in-Err-clause-entries : goal.returns-in_ok-insert-in-Err-clause-entries
returns-in_ok-insert-in-Err-clause-entries c =
    let items = c.args.entries.now.items in
    subst AreEntries (sym (returns-in_ok-insert-in-Err-clause-ok c)) (put_rises (λ e. e.0) (c.args.key, c.args.value) items c.requires)
