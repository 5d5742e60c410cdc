use Rattle.std.proofs.Common.{◌%◌, sym, ap, ◌∙◌}
use Rattle.std.specs.FinMap as map
use Rattle.pg_pool.proofs.PageSlots.{get_slot, found_in}
use Rattle.pg_pool.proofs.slots.Slots.get.Goals as goal

pub returns-in_err-page : goal.returns-in_err-page
returns-in_err-page c =
    c.from_residual.ensures ∙ ap (λ o. found_in o (c.args.id % 64)) c.in_err-page.ensures ∙ sym (get_slot _ _) ∙ ap (λ m. map.get m c.args.id) c.self.view_is

pub returns : goal.returns
returns c =
    c.slot_at.ensures ∙ ap (λ o. found_in o (c.args.id % 64)) c.in_ok-page.ensures ∙ sym (get_slot _ _) ∙ ap (λ m. map.get m c.args.id) c.self.view_is
