use Rattle.std.proofs.Common.{◌≡◌, IfOk, subst}
use Rattle.pg_graph.specs.Refinement.{property_entries}
use Rattle.pg_meaning.specs.Entries.{set_keys}
use Rattle.pg_meaning.specs.Value.{Entries}
use Rattle.pg_store.proofs.names.properties_of.Goals as goal
use Rattle.pg_store.specs.Stores.{pairs_of}

pub returns-clause-properties : goal.returns-clause-properties
returns-clause-properties g c =
    subst (λ (es : Entries). IfOk c.more_properties.result (λ ps. property_entries c.more_properties.new.names ps ≡ set_keys (pairs_of c.args.pairs.items) es)) c.in_ok-properties.ensures.none c.more_properties.ensures.properties
