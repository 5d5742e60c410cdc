use Rattle.std.proofs.Common.{◌≡◌, slice_set, Option, Some, None, IsSome, Ok, Err, sym, ap, subst, ◌∙◌}
use Rattle.pg_graph.specs.Records.{AreEntries, value_in}
use Rattle.pg_graph.specs.Sorted.{IsPlace}
use Rattle.pg_graph.proofs.Entries.{get_missing}
use Rattle.pg_graph.proofs.SortedLists.{put_found, put_rises}
use Rattle.pg_value_core.specs.View.{view}
use Rattle.pg_graph.proofs.properties.replace_entry.Goals as goal

-- nothing holds where there is something and nothing
some_is_none : {X : Type 0} {P : Type 0} (o : Option X) → o ≡ None → IsSome o → P
some_is_none None h some = absurd (cc)
some_is_none (Some x) h some = absurd (cc)

pub returns-in-Ok-clause-replaced : goal.returns-in-Ok-clause-replaced
returns-in-Ok-clause-replaced c =
    let items = c.args.entries.now.items in
    let at : IsPlace (λ e. e.0) c.args.key items (Ok c.in-Ok.i) =
    subst (λ k. IsPlace (λ e. e.0) k items (Ok c.in-Ok.i)) c.number.ensures (subst (λ xs. IsPlace (λ e. e.0) c.number.result xs (Ok c.in-Ok.i)) c.as_slice.ensures.value c.in-Ok.ensures) in
    ap (slice_set items c.in-Ok.i) c.replace.ensures.after
    ∙ sym (put_found (λ e. e.0) (c.args.key, c.args.value) items c.in-Ok.i c.requires.entries at.0 at.1)

pub returns-in-Ok-clause-entries : goal.returns-in-Ok-clause-entries
returns-in-Ok-clause-entries c =
    subst AreEntries (sym (returns-in-Ok-clause-replaced c)) (put_rises (λ e. e.0) (c.args.key, c.args.value) c.args.entries.now.items c.requires.entries)

pub returns-in_default-clause-replaced : goal.returns-in_default-clause-replaced
returns-in_default-clause-replaced c =
    let items = c.args.entries.now.items in
    let at : IsPlace (λ e. e.0) c.args.key items (Err c.in_default.field-0) =
    subst (λ k. IsPlace (λ e. e.0) k items (Err c.in_default.field-0)) c.number.ensures (subst (λ xs. IsPlace (λ e. e.0) c.number.result xs (Err c.in_default.field-0)) c.as_slice.ensures.value c.in_default.ensures) in
    let none : value_in items c.args.key ≡ None = get_missing view c.args.key items c.in_default.field-0 c.requires.entries at.1 in
    some_is_none (value_in items c.args.key) none c.requires.there
