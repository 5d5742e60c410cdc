use Rattle.std.proofs.Common.{option_copied, sym, ap, ◌∙◌}
use Rattle.pg_pool.proofs.PageSlots.{zeros_removed}
use Rattle.pg_pool.proofs.slots.clear_page.Goals as goal

pub returns-then-is_blank : goal.returns-then-is_blank
returns-then-is_blank c =
    zeros_removed _ _ c.args.number c.unwrap.result.now (sym c.get.ensures ∙ ap option_copied c.unwrap.ensures) (c.is_blank.ensures c.if-is_blank.true) c.remove.ensures
