use Rattle.std.proofs.Common.{ap, ◌∙◌}
use Rattle.std.specs.Prelude.{unwrap_or}
use Rattle.pg_meaning.specs.Entries.{value_at}
use Rattle.pg_meaning.specs.Value.{null}
use Rattle.pg_value_core.proofs.Keyed.{seen, same_found, read_seen}
use Rattle.pg_value_core.specs.View.{entries_view}
use Rattle.pg_expr.proofs.reads.entry_lent.Goals as goal

pub returns : goal.returns
returns c =
    ap (λ o. unwrap_or o null) (read_seen c.get.result ∙ ap seen c.get.ensures.value ∙ same_found c.args.key.now c.as_ref.result.now.entries)
    ∙ ap (λ m. value_at c.args.key.now (entries_view m.entries)) c.as_ref.ensures
