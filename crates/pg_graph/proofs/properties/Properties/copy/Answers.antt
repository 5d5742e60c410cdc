use Rattle.std.proofs.Common.{sym, ap, ◌∙◌}
use Rattle.std.specs.FinMap as map
use Rattle.pg_graph.specs.Records.{seen_entries}
use Rattle.pg_graph.proofs.Entries.{rises_alike}
use Rattle.pg_value_core.specs.View.{view}
use Rattle.pg_graph.proofs.properties.Properties.copy.Goals as goal

pub invariant_of-result : goal.invariant_of-result
invariant_of-result c =
    let items = c.self.inside.entries.items in
    let alike = sym (c.in_ok-entries.ensures ∙ ap seen_entries c.as_slice.ensures.value) in
    rises_alike view items c.in_ok-entries.entries.items alike c.self.invariant

pub returns : goal.returns
returns c = ap map.from_sorted (c.in_ok-entries.ensures ∙ ap seen_entries c.as_slice.ensures.value) ∙ c.self.view_is
