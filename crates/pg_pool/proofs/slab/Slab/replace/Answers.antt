use Rattle.std.proofs.Common.{◌<◌, map, length, set, get_or, Some, None, IsSome, sym, ap, subst, ◌∙◌}
use Rattle.pg_pool.specs.Slab.{get}
use Rattle.pg_pool.proofs.SlabLemmas.{updated, has_slot, value_was, written, swapped}
use Rattle.pg_pool.proofs.slab.Slab.replace.Goals as goal

pub invariant_of-self : goal.invariant_of-self
invariant_of-self g c =
    let items = c.self.inside.slots.items in
    let slots = map g.S.Slot.held items in
    let there : IsSome (get_or slots c.args.key None) = subst (λ s. IsSome (get s c.args.key)) (sym c.self.view_is) c.requires in
    let within : c.args.key < length slots = subst (λ s. c.args.key < length s.slots) (sym c.self.view_is) (has_slot c.args.self.now c.args.key c.requires) in
    let put = written g.S.Slot.held items c.replace-before.new.self.items c.args.key c.occupied.result (Some c.args.value) c.occupied.ensures c.replace-before.ensures.items in
    swapped slots _ c.args.key c.self.inside.count within c.self.invariant c.args.value put there

pub returns-clause-before : goal.returns-clause-before
returns-clause-before g c =
    sym (ap (λ s. get s c.args.key) c.self.view_is)
    ∙ value_was g.S.Slot.held c.self.inside.slots.items c.args.key c.replace-before.result c.replace-before.ensures.before
    ∙ sym c.into_value.ensures ∙ c.unwrap.ensures

pub returns-clause-updates : goal.returns-clause-updates
returns-clause-updates g c =
    let items = c.self.inside.slots.items in
    let slots = map g.S.Slot.held items in
    let there : IsSome (get_or slots c.args.key None) = subst (λ s. IsSome (get s c.args.key)) (sym c.self.view_is) c.requires in
    let within : c.args.key < length slots = subst (λ s. c.args.key < length s.slots) (sym c.self.view_is) (has_slot c.args.self.now c.args.key c.requires) in
    let put = written g.S.Slot.held items c.replace-before.new.self.items c.args.key c.occupied.result (Some c.args.value) c.occupied.ensures c.replace-before.ensures.items in
    updated c.args.self.now _ c.args.key (Some c.args.value) (has_slot c.args.self.now c.args.key c.requires) (put ∙ ap (λ s. set s.slots c.args.key (Some c.args.value)) c.self.view_is)
