use Rattle.std.proofs.Common.{◌<◌, length, map, sym, ap, subst, arith, ◌∙◌}
use Rattle.std.proofs.lemmas.List.{length-map}
use Rattle.pg_pool.specs.Slab.{get}
use Rattle.pg_pool.proofs.SlabLemmas.{has_slot, value_was}
use Rattle.pg_pool.proofs.slab.Slab.slot.Goals as goal

pub item-requires : goal.item-requires
item-requires g c =
    let within : c.args.key < length (map g.S.Slot.held c.self.inside.slots.items) = subst (λ s. c.args.key < length s.slots) (sym c.self.view_is) (has_slot c.args.self.now c.args.key c.requires) in
    omega (arith, within, length-map c.self.inside.slots.items g.S.Slot.held)

pub returns : goal.returns
returns g c = sym (value_was g.S.Slot.held c.self.inside.slots.items c.args.key c.item.result.now c.item.ensures) ∙ ap (λ s. get s c.args.key) c.self.view_is
