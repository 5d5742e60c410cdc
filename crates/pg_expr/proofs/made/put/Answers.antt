use Rattle.std.proofs.Common.{◌≡◌, string_bytes, refl, ap, ◌∙◌}
use Rattle.pg_value_core.proofs.Maps.{entries_view-insert_entry}
use Rattle.pg_value_core.specs.View.{entries_view}
use Rattle.pg_expr.proofs.made.put.Goals as goal

pub returns : goal.returns
returns c =
    let named : string_bytes c.in_ok-name.name ≡ string_bytes c.args.key.now.text = c.in_ok-name.ensures.ok ∙ c.as_str.ensures.value in
    ap entries_view c.in_ok-insert.ensures.entries ∙ entries_view-insert_entry c.args.entries.entries c.in_ok-name.name c.in_ok-value.value ∙ rw (named, c.in_ok-value.ensures) refl
