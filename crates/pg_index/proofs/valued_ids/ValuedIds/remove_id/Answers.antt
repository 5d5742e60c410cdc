use Rattle.std.proofs.Common.{IsSome, refl, sym, ap, subst, ◌∙◌}
use Rattle.std.specs.Map.{lookup, values_of}
use Rattle.pg_index.proofs.Indexes.{nothing_lent, nothing_there}
use Rattle.pg_index.proofs.KeptLemmas.{with_set}
use Rattle.pg_index.proofs.ValuedIdsLemmas.{one_equiv, one_value, set_gone, without_key}
use Rattle.pg_index.proofs.valued_ids.ValuedIds.remove_id.Goals as goal
use Rattle.pg_index.specs.Index.{the_ids}
use Rattle.pg_index.specs.Kept.{NoneIsEmpty}

pub returns-in_default : goal.returns-in_default
returns-in_default c =
    nothing_there one_equiv c.args.self.now.sets.entries _ c.args.value.now c.args.id (λ i. (c.get_mut.follows.holds-at-none i).entries) (sym c.get_mut.ensures.value ∙ nothing_lent c.get_mut.result c.in_default.not-Some)

pub returns-then-is_empty : goal.returns-then-is_empty
returns-then-is_empty c =
    let there = c.in-Some.ensures.value in
    let lent = (c.get_mut.follows.holds c.remove_id.new.self).3 (subst IsSome there refl) in
    λ q.
    ap (λ es. the_ids (lookup (one_value q) es)) c.trim.ensures
    ∙ set_gone one_value c.args.self.now.sets.entries (c.get_mut.follows.lender c.remove_id.new.self).entries c.swap_remove.new.self.entries c.args.value.now c.in-Some.ids.now c.remove_id.new.self c.args.id there
    c.remove_id.ensures (c.is_empty.ensures.empty c.if-is_empty.true) lent.0 c.swap_remove.ensures.updates.0 q

pub invariant_of-self-then-is_empty : goal.invariant_of-self-then-is_empty
invariant_of-self-then-is_empty c =
    let old = c.args.self.now in
    let lent = (c.get_mut.follows.holds c.remove_id.new.self).3 (subst IsSome c.in-Some.ensures.value refl) in
    record {
      none_is_empty = subst (λ es. NoneIsEmpty (values_of es)) (sym c.trim.ensures)
          (without_key one_equiv old.sets.entries (c.get_mut.follows.lender c.remove_id.new.self).entries c.swap_remove.new.self.entries c.args.value.now lent.2 c.swap_remove.ensures.updates.2 c.swap_remove.ensures.updates.1
          c.swap_remove.ensures.unique old.none_is_empty);
    }

pub invariant_of-self-else-is_empty : goal.invariant_of-self-else-is_empty
invariant_of-self-else-is_empty c =
    let old = c.args.self.now in
    record {
      none_is_empty = with_set _ old.sets.entries _ c.remove_id.new.self (c.get_mut.follows.holds c.remove_id.new.self).0 old.none_is_empty
          (λ empty. let is = c.is_empty.ensures.exact empty in absurd (cc (is, c.if-is_empty.false)));
    }
