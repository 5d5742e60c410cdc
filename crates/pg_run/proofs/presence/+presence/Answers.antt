use Rattle.std.proofs.Common.{◌≡◌, Ok, Err, ap, sym, subst, ◌∙◌}
use Rattle.std.specs.Prelude.{OnOk, IfErr}
use Rattle.pg_meaning.specs.Queries.{test_output}
use Rattle.pg_meaning.specs.Value.{mapping}
use Rattle.pg_run.proofs.ValueLemmas.{map_seen}
use Rattle.pg_value_core.specs.View.{entries_view}
use Rattle.pg_run.proofs.presence.+presence.Goals as goal

pub test_value-returns-in-Map-clause-ok : goal.test_value-returns-in-Map-clause-ok
test_value-returns-in-Map-clause-ok g t c =
    let same = ap (λ m. mapping (entries_view m.entries)) c.as_ref-in-Map.ensures ∙ sym (map_seen c.args.value.now c.in-Map.entries c.in-Map.is) in
    subst (λ d. OnOk c.test_each_entry.result (test_output c.args.graph.now d ≡ Ok tt)) same c.test_each_entry.ensures.ok

pub test_value-returns-in-Map-clause-err : goal.test_value-returns-in-Map-clause-err
test_value-returns-in-Map-clause-err g t c =
    let same = ap (λ m. mapping (entries_view m.entries)) c.as_ref-in-Map.ensures ∙ sym (map_seen c.args.value.now c.in-Map.entries c.in-Map.is) in
    subst (λ d. IfErr c.test_each_entry.result (λ e. test_output c.args.graph.now d ≡ Err e)) same c.test_each_entry.ensures.err
