use Rattle.std.proofs.Common.{Ok, Err, sym, subst, ◌∙◌}
use Rattle.pg_graph.specs.Records.{AreEntries}
use Rattle.pg_graph.specs.Sorted.{IsPlace}
use Rattle.pg_graph.proofs.SortedLists.{without_found, without_missing, without_rises}
use Rattle.pg_graph.proofs.properties.remove_entry.Goals as goal

pub returns-in-Ok-clause-removed : goal.returns-in-Ok-clause-removed
returns-in-Ok-clause-removed c =
    let items = c.args.entries.now.items in
    let at : IsPlace (λ e. e.0) c.args.key items (Ok c.in-Ok.i) =
    subst (λ k. IsPlace (λ e. e.0) k items (Ok c.in-Ok.i)) c.number.ensures (subst (λ xs. IsPlace (λ e. e.0) c.number.result xs (Ok c.in-Ok.i)) c.as_slice.ensures.value c.in-Ok.ensures) in
    c.remove.ensures.items ∙ sym (without_found (λ e. e.0) c.args.key items c.in-Ok.i c.requires at.0 at.1)

pub returns-in-Ok-clause-entries : goal.returns-in-Ok-clause-entries
returns-in-Ok-clause-entries c =
    let items = c.args.entries.now.items in
    subst AreEntries (sym (returns-in-Ok-clause-removed c))
    (without_rises (λ e. e.0) c.args.key items c.requires)

pub returns-in_default-clause-removed : goal.returns-in_default-clause-removed
returns-in_default-clause-removed c =
    let items = c.args.entries.now.items in
    let at : IsPlace (λ e. e.0) c.args.key items (Err c.in_default.field-0) =
    subst (λ k. IsPlace (λ e. e.0) k items (Err c.in_default.field-0)) c.number.ensures (subst (λ xs. IsPlace (λ e. e.0) c.number.result xs (Err c.in_default.field-0)) c.as_slice.ensures.value c.in_default.ensures) in
    sym (without_missing (λ e. e.0) c.args.key items c.in_default.field-0 at.1)
