use Rattle.std.proofs.Common.{◌<◌, map, length, set, get_or, None, is_some, IsSome, count_by, arith, refl, sym, ap, subst, ◌∙◌}
use Rattle.pg_pool.specs.Slab.{get, slab_len}
use Rattle.pg_pool.proofs.SlabLemmas.{updated, has_slot, value_was, written, vacated}
use Rattle.pg_pool.proofs.slab.Slab.take.Goals as goal

pub invariant_of-self : goal.invariant_of-self
invariant_of-self g c =
    let items = c.self.inside.slots.items in
    let slots = map g.S.Slot.held items in
    let there : IsSome (get_or slots c.args.key None) = subst (λ s. IsSome (get s c.args.key)) (sym c.self.view_is) c.requires in
    let within : c.args.key < length slots = subst (λ s. c.args.key < length s.slots) (sym c.self.view_is) (has_slot c.args.self.now c.args.key c.requires) in
    let put = written g.S.Slot.held items c.replace-before.new.self.items c.args.key c.vacant.result None c.vacant.ensures c.replace-before.ensures.items in
    omega (arith, vacated slots _ c.args.key c.self.inside.count within c.self.invariant put there)

pub returns-clause-before : goal.returns-clause-before
returns-clause-before g c =
    sym (ap (λ s. get s c.args.key) c.self.view_is)
    ∙ value_was g.S.Slot.held c.self.inside.slots.items c.args.key c.replace-before.result c.replace-before.ensures.before
    ∙ sym c.into_value.ensures ∙ c.unwrap.ensures

pub returns-clause-updates : goal.returns-clause-updates
returns-clause-updates g c =
    let items = c.self.inside.slots.items in
    let slots = map g.S.Slot.held items in
    let there : IsSome (get_or slots c.args.key None) = subst (λ s. IsSome (get s c.args.key)) (sym c.self.view_is) c.requires in
    let within : c.args.key < length slots = subst (λ s. c.args.key < length s.slots) (sym c.self.view_is) (has_slot c.args.self.now c.args.key c.requires) in
    let put = written g.S.Slot.held items c.replace-before.new.self.items c.args.key c.vacant.result None c.vacant.ensures c.replace-before.ensures.items in
    updated c.args.self.now _ c.args.key None (has_slot c.args.self.now c.args.key c.requires) (put ∙ ap (λ s. set s.slots c.args.key None) c.self.view_is)

pub returns-clause-len : goal.returns-clause-len
returns-clause-len g c =
    let items = c.self.inside.slots.items in
    let slots = map g.S.Slot.held items in
    let there : IsSome (get_or slots c.args.key None) = subst (λ s. IsSome (get s c.args.key)) (sym c.self.view_is) c.requires in
    let within : c.args.key < length slots = subst (λ s. c.args.key < length s.slots) (sym c.self.view_is) (has_slot c.args.self.now c.args.key c.requires) in
    let put = written g.S.Slot.held items c.replace-before.new.self.items c.args.key c.vacant.result None c.vacant.ensures c.replace-before.ensures.items in
    sym (vacated slots _ c.args.key (count_by is_some slots) within refl put there) ∙ ap slab_len c.self.view_is
