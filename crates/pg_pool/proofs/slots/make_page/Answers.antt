use Rattle.std.proofs.Common.{sym, ◌∙◌}
use Rattle.pg_pool.proofs.PageSlots.{page_made, made_is_there, copied_none}
use Rattle.pg_pool.proofs.slots.make_page.Goals as goal

pub returns-clause-same : goal.returns-clause-same
returns-clause-same c =
    page_made c.add.result _ _ c.args.number (sym c.get.ensures ∙ copied_none c.get.result (sym c.is_some.ensures ∙ c.if-is_some.false)) c.add.ensures.ok c.add.ensures.err

pub returns-clause-present : goal.returns-clause-present
returns-clause-present c = made_is_there c.add.result _ _ c.args.number c.add.ensures.ok
