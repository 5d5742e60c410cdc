use Rattle.std.proofs.Common.{refl, ap, ◌∙◌}
use Rattle.pg_meaning.specs.Value.{mapping}
use Rattle.pg_value_core.specs.View.{entries_view}
use Rattle.pg_value_core.proofs.Forms as form
use Rattle.pg_value_core.proofs.value.Value.map.Goals as goal

pub returns : goal.returns
returns c = form.map_seen c.in_ok-new.field-0 refl ∙ ap (λ m. mapping (entries_view m.entries)) c.in_ok-new.ensures.ok
